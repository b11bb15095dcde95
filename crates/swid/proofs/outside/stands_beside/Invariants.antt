-- There are as many stands as were asked for so far, and each is ready.
use Rattle.std.proofs.Common.{◌≡◌, length}
use Rattle.session_pool.specs.Stands.{AreReady}
use Rattle.swid.proofs.outside.stands_beside.Given as goal

abbrev pub invariant-loop : goal.invariant-loop
invariant-loop g l = record {
  count : length l.stands.items ≡ l.counter;
  ready : AreReady (λ door. door.out) l.stands.items;
}
