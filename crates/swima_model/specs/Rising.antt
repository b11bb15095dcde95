-- What records in order of identifier are, in words that say nothing of how they are put in order.
use Rattle.std.specs.Prelude.{◌≡◌, ◌==◌, ◌↔◌, ℕ, List, None, filter}
use Rattle.std.specs.List.Sorted.{IsPermutation, IsNonDecreasing, IsStrictlyIncreasing}
use Rattle.swima_model.specs.declared.record.Record.{Record}
use Rattle.swima_model.specs.InOrder.{ids, in_order}
use Rattle.swima_model.specs.Doubled.{doubled}

-- The records of one identifier, as they stand.
abbrev pub of_id : ℕ → List Record → List Record
of_id id records = filter (λ (r : Record). r.id == id) records

-- The same records with identifiers that do not fall, those of one identifier as they stood. Where
-- no identifier is doubled, each is below the next.
pub record IsRisingPermutation (records ordered : List Record) : Type 0 where
  pub permutation : IsPermutation records ordered
  pub rising : IsNonDecreasing (ids ordered)
  pub stable : (id : ℕ) → of_id id ordered ≡ of_id id records
  pub strict : doubled (ids records) ≡ None → IsStrictlyIncreasing (ids ordered)

-- `in_order` gives this and nothing else.
abbrev pub InOrderIsRisingPermutation : Type 0
InOrderIsRisingPermutation = (records ordered : List Record) → (in_order records ≡ ordered) ↔ IsRisingPermutation records ordered
