-- Things put in order of a number that each has.
use Rattle.std.specs.Prelude.{ℕ, List, [], ◌∷◌, nat_le, if◌then◌else◌}

-- One put into its place among others in order, before one of the same number.
abbrev pub put_by : {X : Type 0} → (X → ℕ) → X → List X → List X
put_by number x [] = x ∷ []
put_by number x (first ∷ others) = if nat_le (number x) (number first) then x ∷ first ∷ others else first ∷ put_by number x others

-- All in order of number, those of one number as they stood.
abbrev pub in_order_by : {X : Type 0} → (X → ℕ) → List X → List X
in_order_by number [] = []
in_order_by number (x ∷ others) = put_by number x (in_order_by number others)
