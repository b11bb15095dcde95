-- The pairs that are left, and after them those that are in.
use Rattle.std.proofs.Common.{◌≡◌, length, None}
use Rattle.cbor_det.specs.Open.{entries_view}
use Rattle.cbor_det.specs.View.{listed}
use Rattle.cbor_det.proofs.Adds.{join}
use Rattle.cbor_det.proofs.members.Ordered.from_pairs.Given as goal

abbrev pub invariant-loop-pair : goal.invariant-loop-pair
invariant-loop-pair l = record {
  same : join (listed l.rest.items) (entries_view l.ordered.entries.entries) ≡ listed l.fn.pairs;
  key : l.ordered.key ≡ None;
}

abbrev pub decreases-loop-pair : goal.decreases-loop-pair
decreases-loop-pair l = length l.rest.items
