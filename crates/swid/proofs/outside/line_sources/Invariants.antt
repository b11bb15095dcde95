-- There is a source for each name so far.
use Rattle.std.proofs.Common.{◌≡◌, length}
use Rattle.swid.proofs.outside.line_sources.Given as goal

abbrev pub invariant-loop-name : goal.invariant-loop-name
invariant-loop-name g l = length l.sources.items ≡ l.name-index
