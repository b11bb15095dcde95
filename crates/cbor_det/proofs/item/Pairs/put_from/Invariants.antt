-- What was put and what is left are all pairs.
use Rattle.std.proofs.Common.{◌≡◌, ◌++◌, drop}
use Rattle.cbor_det.specs.Canonical.{canon_pairs}
use Rattle.cbor_det.specs.View.{listed}
use Rattle.cbor_det.proofs.item.Pairs.put_from.Given as goal

abbrev pub invariant-loop-next : goal.invariant-loop-next
invariant-loop-next l = l.out ++ canon_pairs (listed (drop l.next l.pairs)) ≡ l.fn.out ++ canon_pairs (listed (drop l.place l.pairs))
