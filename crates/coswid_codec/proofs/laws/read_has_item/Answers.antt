-- By the laws of the tag's map.
use Rattle.coswid_codec.proofs.Whole.{read_has_item}
use Rattle.coswid_codec.proofs.laws.read_has_item.Goals as goal

pub returns : goal.returns
returns c = record { item = read_has_item }
