-- What is listed of numbered values.
use Rattle.std.specs.Prelude.{ℕ, ◌+◌, Bool, List, [], ◌∷◌, ◌++◌, if◌then◌else◌}
use Rattle.coswid_links.specs.declared.finding.LinkFinding.{LinkFinding}

-- the finding of this number on these two, where it shows
abbrev pub finding : ℕ → Bool → ℕ → ℕ → List LinkFinding
finding kind shows first second = if shows then record { kind = kind; first = first; second = second } ∷ [] else []

-- what f gives of each value and its number, in order; the first value has the number n
abbrev pub each_from : {A B : Type 0} → (ℕ → A → List B) → ℕ → List A → List B
each_from f n [] = []
each_from f n (x ∷ xs) = f n x ++ each_from f (n + 1) xs

-- what f gives of each pair of values and their numbers, in order of the first and then of the
-- second, which comes after the first
abbrev pub each_pair_from : {A B : Type 0} → (ℕ → A → ℕ → A → List B) → ℕ → List A → List B
each_pair_from f n [] = []
each_pair_from f n (x ∷ xs) = each_from (f n x) (n + 1) xs ++ each_pair_from f (n + 1) xs
