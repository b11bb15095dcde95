-- Each item takes octets of the piece.
use Rattle.std.proofs.Common.{length}
use Rattle.bench.proofs.cbor.items_of.Given as goal

abbrev pub decreases-loop-rest : goal.decreases-loop-rest
decreases-loop-rest l = length l.rest
