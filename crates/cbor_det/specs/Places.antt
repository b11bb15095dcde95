-- The place of a key among rising pairs, as the code holds them.
use Rattle.std.specs.Prelude.{◌≡◌, ◌≤◌, ◌<◌, ℕ, suc, remove, List, [], ◌∷◌, if◌then◌else◌, length, take, drop, Contains, Option, Some, None}
use Rattle.std.specs.Ordering.{nat_cmp}
use Rattle.std.specs.declared.cmp.Ordering.TheVariants.{Less}
use Rattle.std.specs.Cmp.Lexicographic.{slice_cmp}
use Rattle.cbor_det.specs.declared.item.Pair.{Pair}
use Rattle.cbor_det.specs.Term.{Term, Pairs, no_pairs, pair}
use Rattle.cbor_det.specs.Canonical.{canon}
use Rattle.cbor_det.specs.Spelling.{IsBelow}
use Rattle.cbor_det.specs.Faults.{keys}
use Rattle.cbor_det.specs.Adding.{is_above}
use Rattle.cbor_det.specs.Lookup.{value_at, value_under, other_than}
use Rattle.cbor_det.specs.View.{pair_view, listed}

-- the keys of these pairs are below this one
abbrev pub AreBelow : Pairs → Term → Type 0
AreBelow no_pairs k = Unit {0}
AreBelow (pair l w ps) k = (slice_cmp nat_cmp (canon l) (canon k) ≡ Less) × AreBelow ps k

-- A key that is not held goes to this place.
pub record IsPlace (k : Term) (xs : List Pair) (place : ℕ) : Type 0 where
  pub within : place ≤ length xs
  pub free : ¬ Contains (keys (listed xs)) (canon k)
  pub front : AreBelow (listed (take place xs)) k
  pub back : IsBelow k (listed (drop place xs))

-- None where the key is held, and else its place.
abbrev pub IsFound : Term → List Pair → Option ℕ → Type 0
IsFound k xs None = Contains (keys (listed xs)) (canon k)
IsFound k xs (Some place) = IsPlace k xs place

-- how many pairs at the start have keys that are below this one
abbrev pub front_length : Term → List Pair → ℕ
front_length k [] = 0
front_length k (x ∷ xs) = if is_above k (pair_view x).0 then suc (front_length k xs) else 0

-- None where no pair has the number as its key, and else the place of the first that has.
abbrev pub IsUnder : ℕ → List Pair → Option ℕ → Type 0
IsUnder n xs None = (value_under n (listed xs) ≡ None) × (other_than (n ∷ []) (listed xs) ≡ listed xs)
IsUnder n xs (Some place) =
    (place < length xs) × (value_under n (listed xs) ≡ value_at (listed xs) place) × (other_than (n ∷ []) (listed (remove xs place)) ≡ other_than (n ∷ []) (listed xs))
