-- By the laws of the tag's map.
use Rattle.coswid_codec.proofs.Whole.{one_tag}
use Rattle.coswid_codec.proofs.laws.item_is_one_tag.Goals as goal

pub returns : goal.returns
returns c = record { one = one_tag }
