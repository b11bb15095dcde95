-- What `tag` prints, of all octets of the input.
use Rattle.std.specs.Prelude.{◌≡◌, ◌<◌, ◌≤◌, ℕ, ℤ, Option, List, [], ◌∷◌, ◌++◌, length, codes, decimal}
use Rattle.std.specs.Fmt.{signed_decimal}
use Rattle.std.specs.List.{flat_map}
use Rattle.wire_base.specs.declared.outside.files.NamedFile.{NamedFile}
use Rattle.cbor_det.specs.Answers.{IsRefusal}
use Rattle.cbor_det.specs.declared.fault.CborFault.{CborFault}
use Rattle.cbor_det.specs.declared.fault.CborRefused.TheVariants as refused
use Rattle.coswid_res.specs.declared.fault.FormFault.{FormFault}
use Rattle.coswid_res.specs.declared.verification.verdict.Verdict.{Verdict}
use Rattle.coswid_tag.specs.Findings.{findings}
use Rattle.coswid_tag.specs.declared.tag.Tag.{Tag}
use Rattle.coswid_codec.specs.Answers.{limits, BeginsTag, BeginsFaulty}
use Rattle.coswid_codec.specs.declared.read.TagRefused.{TagRefused}
use Rattle.coswid_codec.specs.declared.read.TagRefused.TheVariants as why
use Rattle.command_text.specs.Answer.{refusal_answer}
use Rattle.command_text.specs.declared.answer.Answer.{Answer}
use Rattle.command_text.specs.declared.ending.Ending.{Ending}
use Rattle.command_text.specs.declared.ending.Ending.TheVariants as ending
use Rattle.swid_cli.specs.declared.command.Scope.{Scope}
use Rattle.swid_cli.specs.Checking.{TagVerdicts, checked_ending, checked_text}
use Rattle.command_text.specs.Text.{fault_line, line, refusal}

-- The most octets of the input.
abbrev pub TAG_OCTETS : ℕ
TAG_OCTETS = 8388608

-- A step of a path, a key or an index, that stands after another.
abbrev pub step_behind : ℤ → List ℕ
step_behind step = codes "/" ++ signed_decimal step

-- The steps of a path, with a stroke between them. An empty path is a point.
abbrev pub path_text : List ℤ → List ℕ
path_text [] = codes "."
path_text (step ∷ steps) = signed_decimal step ++ flat_map step_behind steps

-- A form fault: its number, and the path to it.
abbrev pub form_line : FormFault → List ℕ
form_line fault = line (codes "form" ∷ decimal fault.kind ∷ path_text fault.path ∷ [])

-- The answer to octets that begin with no tag: why none was read. There is none where memory ran
-- out.
abbrev pub AnswersRefused : TagRefused → Answer → Type 0
AnswersRefused (why.Cbor fault) made = made ≡ refusal_answer (fault_line fault.kind fault.at)
AnswersRefused (why.Form fault) made = made ≡ refusal_answer (form_line fault)
AnswersRefused why.Memory made = ⊥

-- The text that is printed of all octets of the input, and how it ends: a rule for each row of the
-- table in docs/rules/commands.md. The tag alone is checked, or its files too, and what these hold
-- is known or not.
pub data TagTells (looked_at : Scope) (files : Option (List NamedFile)) : List ℕ → List ℕ → Ending → Type 0 where
  -- the input has more octets than it may have
  long_input : (octets : List ℕ) → TAG_OCTETS < length octets → TagTells looked_at files octets (refusal (codes "limit") TAG_OCTETS) ending.Refused
  -- it begins with no item
  no_item : (octets : List ℕ) (fault : CborFault) → length octets ≤ TAG_OCTETS → IsRefusal limits octets (refused.Fault fault)
      → TagTells looked_at files octets (fault_line fault.kind fault.at) ending.Refused
  -- it begins with an item that is no tag
  no_tag : (octets : List ℕ) (fault : FormFault) → length octets ≤ TAG_OCTETS → BeginsFaulty octets fault → TagTells looked_at files octets (form_line fault) ending.Refused
  -- octets follow the tag
  more_follows : (octets : List ℕ) (g : Tag) (len : ℕ) → length octets ≤ TAG_OCTETS → BeginsTag octets g len → len < length octets
      → TagTells looked_at files octets (refusal (codes "trailing") len) ending.Refused
  -- it is a tag
  whole_tag : (octets : List ℕ) (g : Tag) (verdicts : List (List ℕ × Verdict)) → BeginsTag octets g (length octets) → TagVerdicts looked_at files g verdicts
      → TagTells looked_at files octets (checked_text g verdicts) (checked_ending (findings g) verdicts)
