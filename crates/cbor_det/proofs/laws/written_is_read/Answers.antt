-- The canonical spelling is a spelling.
use Rattle.cbor_det.proofs.Written.{written_begins}
use Rattle.cbor_det.proofs.laws.written_is_read.Goals as goal

pub returns : goal.returns
returns c = record { read = written_begins }
