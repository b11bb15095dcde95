-- By the rules of spellings.
use Rattle.cbor_det.proofs.Written.{spelled_proper, written}
use Rattle.cbor_det.proofs.laws.spelled_is_proper_and_written.Goals as goal

pub returns : goal.returns
returns c = record { proper = spelled_proper; written = written }
