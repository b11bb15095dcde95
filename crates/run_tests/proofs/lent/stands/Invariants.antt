-- As many stands as turns so far, and all are ready.
use Rattle.std.proofs.Common.{◌≡◌, length}
use Rattle.session_pool.specs.Stands.{AreReady}
use Rattle.run_tests.proofs.lent.stands.Given as goal

abbrev pub invariant-loop : goal.invariant-loop
invariant-loop l = record {
  count : length l.stands.items ≡ l.counter;
  ready : AreReady (λ door. door.out) l.stands.items;
}
