-- The items made so far are those gone over.
use Rattle.std.proofs.Common.{◌≡◌, take}
use Rattle.wire_base.proofs.values.list.TryCopy.copy_all.Given as goal

abbrev pub invariant-loop-item : goal.invariant-loop-item
invariant-loop-item g l = l.made.items ≡ take l.item-index l.items
