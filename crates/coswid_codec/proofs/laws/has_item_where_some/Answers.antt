-- By the laws of the tag's map.
use Rattle.coswid_codec.proofs.Whole.{has_item_where_some}
use Rattle.coswid_codec.proofs.laws.has_item_where_some.Goals as goal

pub returns : goal.returns
returns c = record { item = has_item_where_some }
