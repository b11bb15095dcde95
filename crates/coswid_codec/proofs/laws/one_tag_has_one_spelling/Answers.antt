-- By the laws of the tag's map.
use Rattle.coswid_codec.proofs.Whole.{one_tag_one_spelling}
use Rattle.coswid_codec.proofs.laws.one_tag_has_one_spelling.Goals as goal

pub returns : goal.returns
returns c = record { one = one_tag_one_spelling }
