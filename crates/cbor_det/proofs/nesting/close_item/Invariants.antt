-- What is still to be done stays the same.
use Rattle.std.proofs.Common.{◌≡◌, length}
use Rattle.cbor_det.specs.Machine.{item_ended}
use Rattle.cbor_det.specs.View.{view}
use Rattle.cbor_det.specs.Standing.{place}
use Rattle.cbor_det.proofs.nesting.close_item.Given as goal

abbrev pub invariant-loop-frame : goal.invariant-loop-frame
invariant-loop-frame l = item_ended (place l.stack.items) l.began (view l.item) ≡ item_ended (place l.initial.stack.items) l.fn.at (view l.fn.item)

abbrev pub decreases-loop-frame : goal.decreases-loop-frame
decreases-loop-frame l = length l.stack.items
