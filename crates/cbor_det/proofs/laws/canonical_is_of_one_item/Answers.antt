-- A spelling is of one item.
use Rattle.cbor_det.proofs.Written.{canon_same}
use Rattle.cbor_det.proofs.laws.canonical_is_of_one_item.Goals as goal

pub returns : goal.returns
returns c = record { one = canon_same }
