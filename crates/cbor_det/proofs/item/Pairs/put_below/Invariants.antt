-- What was put and what is left below the number are all below it.
use Rattle.std.proofs.Common.{◌≡◌, ◌++◌, drop}
use Rattle.cbor_det.specs.Canonical.{canon_pairs}
use Rattle.cbor_det.specs.Laid.{below, after_below}
use Rattle.cbor_det.specs.View.{listed}
use Rattle.cbor_det.proofs.item.Pairs.put_below.Given as goal

abbrev pub invariant-loop-next : goal.invariant-loop-next
invariant-loop-next l = record {
  put : l.out ++ canon_pairs (below l.number (listed (drop l.next l.pairs))) ≡ l.fn.out ++ canon_pairs (below l.number (listed (drop l.place l.pairs)));
  left : after_below l.number (listed (drop l.next l.pairs)) ≡ after_below l.number (listed (drop l.place l.pairs));
}
