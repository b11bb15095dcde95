-- The records are the same, and there are as many places.
use Rattle.std.proofs.Common.{◌≡◌, length}
use Rattle.std.specs.List.Sorted.{IsPermutation}
use Rattle.validator_core.proofs.order.move_each.Given as goal

abbrev pub invariant-loop-to : goal.invariant-loop-to
invariant-loop-to l = record {
  same : IsPermutation l.fn.items l.items;
  places : length l.places ≡ length l.fn.places;
}
