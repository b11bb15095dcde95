-- What the loops keep: a prefix was written.
use Rattle.std.proofs.Common.{◌≡◌, ◌++◌, map, take}
use Rattle.cbor_det.specs.Canonical.{canon_terms, canon_pairs}
use Rattle.cbor_det.specs.View.{view, terms_of, pairs_of}
use Rattle.cbor_det.proofs.Views.{pair_view}
use Rattle.cbor_det.proofs.write.+put.Given as goal

abbrev pub invariant-put_items-loop-item : goal.invariant-put_items-loop-item
invariant-put_items-loop-item l = l.out ≡ l.fn.out ++ canon_terms (terms_of (map view (take l.item-index l.item-items)))

abbrev pub invariant-put_pairs-loop-pair : goal.invariant-put_pairs-loop-pair
invariant-put_pairs-loop-pair l = l.out ≡ l.fn.out ++ canon_pairs (pairs_of (map pair_view (take l.pair-index l.pair-items)))
