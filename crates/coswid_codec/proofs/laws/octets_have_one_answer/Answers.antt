-- By the outcomes of items.
use Rattle.coswid_codec.proofs.Outcomes.{begins_one_tag, has_one_fault, not_both, tag_or_fault}
use Rattle.coswid_codec.proofs.laws.octets_have_one_answer.Goals as goal

pub returns : goal.returns
returns c = record { tag = begins_one_tag; fault = has_one_fault; both = not_both; some = tag_or_fault }
