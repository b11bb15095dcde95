-- As many sources as turns so far.
use Rattle.std.proofs.Common.{◌≡◌, length}
use Rattle.run_tests.proofs.lent.all_sources.Given as goal

abbrev pub invariant-loop : goal.invariant-loop
invariant-loop g l = length l.boxes.items ≡ l.counter
