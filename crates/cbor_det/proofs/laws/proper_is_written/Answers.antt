-- By the parts of the item.
use Rattle.cbor_det.proofs.Written.{proper_spelled}
use Rattle.cbor_det.proofs.laws.proper_is_written.Goals as goal

pub returns : goal.returns
returns c = record { written = proper_spelled }
