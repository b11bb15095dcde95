-- Records of which each takes the place of one that is held, or comes after all of these.
use Rattle.std.specs.Prelude.{◌≡◌, ◌<◌, ◌≤◌, ◌⊎◌, ℕ, List, [], ◌∷◌, None, IsSome, filter, length, nat_le}
use Rattle.swima_model.specs.declared.record.Record.{Record}
use Rattle.swima_model.specs.Live.{record_of}

-- Each identifier is below this number.
abbrev pub AreBelow : ℕ → List Record → Type 0
AreBelow next [] = Unit {0}
AreBelow next (r ∷ rs) = (r.id < next) × AreBelow next rs

-- The records with an identifier from this number on.
abbrev pub from : ℕ → List Record → List Record
from next records = filter (λ (r : Record). nat_le next r.id) records

-- A record with the identifier of each of the others is held.
abbrev pub OthersAreHeld : List Record → ℕ → List Record → Type 0
OthersAreHeld held next [] = Unit {0}
OthersAreHeld held next (r ∷ rs) = (IsSome (record_of r.id held) ⊎ (next ≤ r.id)) × OthersAreHeld held next rs

-- Some given record is not held, and comes before one that is.
abbrev pub FallAmong : List Record → List Record → Type 0
FallAmong held [] = ⊥
FallAmong held (g ∷ given) = ((record_of g.id held ≡ None) × ¬ AreBelow g.id held) ⊎ FallAmong held given

-- Of the given records that many come after all that are held, and each other takes the place of
-- one.
pub record IsFurther (held given : List Record) (count : ℕ) : Type 0 where
  pub next : ℕ
  pub below : AreBelow next held
  pub others : OthersAreHeld held next given
  pub counted : count ≡ length (from next given)
