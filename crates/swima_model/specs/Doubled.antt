-- Identifiers that stand twice.
use Rattle.std.specs.Prelude.{◌==◌, ℕ, Bool, List, [], ◌∷◌, Option, Some, None, min, nat_le, filter, fold, count_by}

-- The smallest of some numbers.
abbrev pub smallest : List ℕ → Option ℕ
smallest [] = None
smallest (n ∷ others) = Some (fold min n others)

-- How often a number stands among the numbers.
abbrev pub times : ℕ → List ℕ → ℕ
times n numbers = count_by (λ other. other == n) numbers

-- The number stands at least twice among the numbers.
abbrev pub stands_twice : List ℕ → ℕ → Bool
stands_twice numbers n = nat_le 2 (times n numbers)

-- The smallest number that stands twice.
abbrev pub doubled : List ℕ → Option ℕ
doubled numbers = smallest (filter (stands_twice numbers) numbers)
