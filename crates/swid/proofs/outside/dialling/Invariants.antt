-- There is a stand for each address so far, and each is ready.
use Rattle.std.proofs.Common.{◌≡◌, length}
use Rattle.session_pool.specs.Stands.{AreReady}
use Rattle.swid.proofs.outside.dialling.Given as goal

abbrev pub invariant-loop-address : goal.invariant-loop-address
invariant-loop-address g l = record {
  count : length l.stands.items ≡ l.address-index;
  ready : AreReady (λ door. door.out) l.stands.items;
}
