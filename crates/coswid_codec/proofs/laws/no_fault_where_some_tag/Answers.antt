-- By the laws of the tag's map.
use Rattle.coswid_codec.proofs.Whole.{no_fault_or_no_tag}
use Rattle.coswid_codec.proofs.laws.no_fault_where_some_tag.Goals as goal

pub returns : goal.returns
returns c = record { tag = no_fault_or_no_tag }
