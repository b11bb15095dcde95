use Rattle.std.proofs.Common.{◌≡◌, true}
use Rattle.inventory_tests.proofs.shelf_thread_tests.has_its_own.Given as goal

abbrev pub invariant-loop-number : goal.invariant-loop-number
invariant-loop-number g l = (l.pass.shelf ≡ l.shelf) × (l.pass.may_change ≡ true)
