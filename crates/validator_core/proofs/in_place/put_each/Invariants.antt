-- The given records that are left fit where those that are held now are, and come to the same.
use Rattle.std.proofs.Common.{◌≡◌, ◌+◌, ◌≤◌, ℕ, length}
use Rattle.std.specs.List.Sorted.{IsStrictlyIncreasing}
use Rattle.std.specs.Prelude.{vec_capacity, vec_len}
use Rattle.std.specs.Vec.Iter.{into_iter_items, into_iter_len}
use Rattle.swima_model.specs.InOrder.{ids}
use Rattle.validator_core.specs.Further.{IsFurther}
use Rattle.validator_core.specs.Merged.{merged}
use Rattle.validator_core.proofs.in_place.put_each.Given as goal

abbrev pub invariant-loop-record : goal.invariant-loop-record
invariant-loop-record l = record {
  rising : IsStrictlyIncreasing (ids l.records.items);
  given : IsStrictlyIncreasing (ids (into_iter_items l.record-iterator));
  room : (count : ℕ) × IsFurther l.records.items (into_iter_items l.record-iterator) count × (vec_len l.records + count ≤ vec_capacity l.records);
  len : into_iter_len l.record-iterator ≡ length (into_iter_items l.record-iterator);
  merged : merged l.records.items (into_iter_items l.record-iterator) ≡ merged l.fn.records.items l.fn.given.items;
}
