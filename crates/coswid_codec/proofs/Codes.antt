-- One or more codes.
use Rattle.coswid_res.specs.Schema.{a_code, one_or_more}
use Rattle.coswid_res.specs.Words.{OneOrMore}
use Rattle.coswid_tag.specs.declared.value.CodeValue.{CodeValue}
use Rattle.coswid_tag.specs.declared.value.CodeValue.TheVariants as code
use Rattle.coswid_codec.specs.Parts.{Code, code_item, codes_item}
use Rattle.coswid_codec.proofs.Lawful.{Lawful}
use Rattle.coswid_codec.proofs.Plain.{code_law}
use Rattle.coswid_codec.proofs.Several.{IsAlone, several_law}

code_alone : (c : CodeValue) → IsAlone (code_item c)
code_alone (code.Int z) = tt
code_alone (code.Text s) = tt

pub codes_law : Lawful (one_or_more a_code) (OneOrMore Code) codes_item 0
codes_law = several_law a_code Code code_item 0 code_law code_alone
