-- Each tag takes octets.
use Rattle.std.proofs.Common.{length}
use Rattle.bench.proofs.tags.tags_read.Given as goal

abbrev pub decreases-loop-rest : goal.decreases-loop-rest
decreases-loop-rest l = length l.rest
