-- Identifiers of records, each with the place of its record.
use Rattle.std.specs.Prelude.{ℕ, List, map}
use Rattle.std.specs.List.Sorted.{IsNonDecreasing, IsPermutation}
use Rattle.swima_model.specs.declared.record.Record.{Record}
use Rattle.swima_model.specs.InOrder.{ids}
use Rattle.validator_core.specs.declared.order.Placed.{Placed}

-- The identifiers.
abbrev pub ids_of : List Placed → List ℕ
ids_of places = map (λ (p : Placed). p.id) places

-- They are those of the records, in order.
pub record AreInOrder (records : List Record) (places : List Placed) : Type 0 where
  pub same : IsPermutation (ids records) (ids_of places)
  pub rising : IsNonDecreasing (ids_of places)
