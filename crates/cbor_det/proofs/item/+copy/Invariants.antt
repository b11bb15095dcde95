-- What the loops that copy keep: a prefix was copied.
use Rattle.std.proofs.Common.{◌≡◌, take}
use Rattle.cbor_det.proofs.item.+copy.Given as goal

abbrev pub invariant-copy_items-loop-item : goal.invariant-copy_items-loop-item
invariant-copy_items-loop-item l = l.made ≡ take l.item-index l.item-items

abbrev pub invariant-copy_pairs-loop-pair : goal.invariant-copy_pairs-loop-pair
invariant-copy_pairs-loop-pair l = l.made ≡ take l.pair-index l.pair-items
