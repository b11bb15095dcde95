-- Both are what the machine reads.
use Rattle.cbor_det.proofs.Written.{one_item}
use Rattle.cbor_det.proofs.laws.spelling_is_of_one_item.Goals as goal

pub returns : goal.returns
returns c = record { one = one_item }
