-- Values distinguished by numbers.
use Rattle.std.specs.Prelude.{◌≡◌, ℕ, ◌<◌, ◌==◌, Bool, List, map, length, slice_index, slice_index_or}
use Rattle.std.specs.List.{position_or_len}

-- for each value the place of the first that equals it
abbrev pub first_places : {K : Type 0} → (K → K → Bool) → List K → List ℕ
first_places eq vs = map (λ v. position_or_len (eq v) vs) vs

-- There is a number for each value, and the numbers of two values are equal exactly where the
-- values are the same.
pub record Tells {A : Type 0} (same : A → A → Bool) (xs : List A) (numbers : List ℕ) : Type 0 where
  pub one_each : length numbers ≡ length xs
  pub apart : (i j : ℕ) (d : A) → i < length xs → j < length xs
      → (slice_index numbers i == slice_index numbers j) ≡ same (slice_index_or xs i d) (slice_index_or xs j d)

-- Each number is its own place: no value is the same as one before it.
abbrev pub AreOwnPlaces : List ℕ → Type 0
AreOwnPlaces numbers = (k : ℕ) → k < length numbers → slice_index numbers k ≡ k
