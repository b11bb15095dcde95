use Rattle.std.proofs.Common.{◌≡◌, true}
use Rattle.bench.proofs.shelf.repeat.Given as goal

abbrev pub invariant-loop : goal.invariant-loop
invariant-loop g l = (l.pass.shelf ≡ l.fn.shelf) × (l.pass.may_change ≡ true)
