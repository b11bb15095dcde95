-- What the smallest doubled number is, in words that say nothing of how it is found.
use Rattle.std.specs.Prelude.{◌≡◌, ◌<◌, ◌≤◌, ◌↔◌, ℕ, List, Option, Some, None}
use Rattle.swima_model.specs.Doubled.{doubled, times}

-- The least number that stands at least twice, or `None` where none does.
abbrev pub IsLeastRepeated : List ℕ → Option ℕ → Type 0
IsLeastRepeated numbers None = (n : ℕ) → times n numbers < 2
IsLeastRepeated numbers (Some least) = (2 ≤ times least numbers) × ((n : ℕ) → 2 ≤ times n numbers → least ≤ n)

-- `doubled` gives this and nothing else.
abbrev pub DoubledIsLeastRepeated : Type 0
DoubledIsLeastRepeated = (numbers : List ℕ) (found : Option ℕ) → (doubled numbers ≡ found) ↔ IsLeastRepeated numbers found
