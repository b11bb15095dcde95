-- Numbers that do not fall.
use Rattle.std.proofs.Common.{◌≡◌, ◌≢◌, inl, inr, ℕ, zero, suc, ◌+◌, ◌<◌, ◌≤◌, eqb, cond, Bool, true, false, List, [], ◌∷◌, length, get_or, drop, map, Option, Some, None, refl, sym, ap, ◌∙◌, subst, map-id, arith, eq-eqb, eqb-true, ne_eqb}
use Rattle.std.specs.List.Sorted.{IsNonDecreasing, IsNonDecreasingBy, IsStrictlyIncreasing}
use Rattle.std.specs.Option.{option_eq}
use Rattle.std.proofs.lemmas.Bool.{false≢true, cases_eq, cases_lt, cond-true, cond-false}
use Rattle.std.proofs.lemmas.List.{at_drop_more}
use Rattle.std.proofs.lemmas.List.Sums.{count_by-le-length}
use Rattle.swima_model.specs.Repeated.{IsLeastRepeated}
use Rattle.swima_model.specs.Doubled.{times}
use Rattle.swima_model.proofs.Repeats.{times_here, times_other, times_more}

-- None of the numbers is below `n`.
abbrev pub AllFrom : ℕ → List ℕ → Type 0
AllFrom n [] = Unit {0}
AllFrom n (x ∷ xs) = (n ≤ x) × AllFrom n xs

-- None of the numbers is below one before it.
abbrev pub Rises : List ℕ → Type 0
Rises [] = Unit {0}
Rises (x ∷ xs) = AllFrom x xs × Rises xs

pub from_lower : (m n : ℕ) (xs : List ℕ) → m ≤ n → AllFrom n xs → AllFrom m xs
from_lower m n [] le h = tt
from_lower m n (x ∷ xs) le h = (omega (arith, h.0), from_lower m n xs le h.1)

-- A number that stands there is not below.
pub from_times : (n m : ℕ) (xs : List ℕ) → AllFrom n xs → 0 < times m xs → n ≤ m
from_times n m [] h some = absurd (omega arith)
from_times n m (x ∷ xs) h some = elim (cases_eq x m) [
  | inl e ↦ omega (arith, h.0)
  | inr ne ↦ from_times n m xs h.1 (omega (arith, times_other m x xs ne))
]

-- The same by places.
all_from : {X : Type 0} (f : X → ℕ) (n : ℕ) (xs : List X) → ((j : ℕ) (d : X) → j < length xs → n ≤ f (get_or xs j d)) → AllFrom n (map f xs)
all_from f n [] h = tt
all_from f n (x ∷ xs) h = (h 0 x (omega arith), all_from f n xs (λ j d lt. h (suc j) d (omega arith)))

pub rises_by : {X : Type 0} (f : X → ℕ) (xs : List X) → IsNonDecreasingBy f xs → Rises (map f xs)
rises_by f [] h = tt
rises_by f (x ∷ xs) h = (
  all_from f (f x) xs (λ j d lt. h 0 (suc j) d (omega arith) (omega arith)),
  rises_by f xs (λ i j d le lt. h (suc i) (suc j) d (omega arith) (omega arith)),
)

pub rises : (xs : List ℕ) → IsNonDecreasing xs → Rises xs
rises xs h = subst Rises (map-id xs) (rises_by (λ x. x) xs h)

from_at : (n : ℕ) (xs : List ℕ) (j d : ℕ) → AllFrom n xs → j < length xs → n ≤ get_or xs j d
from_at n [] j d h lt = absurd (omega arith)
from_at n (x ∷ xs) zero d h lt = h.0
from_at n (x ∷ xs) (suc j) d h lt = from_at n xs j d h.1 (omega arith)

pub does_not_fall : (xs : List ℕ) → Rises xs → IsNonDecreasing xs
does_not_fall [] h i j d le lt = absurd (omega arith)
does_not_fall (x ∷ xs) h zero zero d le lt = omega arith
does_not_fall (x ∷ xs) h zero (suc j) d le lt = from_at x xs j d h.0 (omega arith)
does_not_fall (x ∷ xs) h (suc i) zero d le lt = absurd (omega arith)
does_not_fall (x ∷ xs) h (suc i) (suc j) d le lt = does_not_fall xs h.1 i j d (omega arith) (omega arith)

-- The first number that the one before it equals.
abbrev pub is_it : Option ℕ → ℕ → Bool
is_it None x = false
is_it (Some before) x = eqb before x

abbrev pub repeat_after : Option ℕ → List ℕ → Option ℕ
repeat_after before [] = None
repeat_after before (x ∷ xs) = cond (is_it before x) (Some x) (repeat_after (Some x) xs)

pub found_here : (before : Option ℕ) (numbers : List ℕ) (i : ℕ) → i < length numbers → option_eq eqb before (Some (get_or numbers i 0)) ≡ true
    → repeat_after before (drop i numbers) ≡ before
found_here None numbers i lt e = absurd (false≢true e)
found_here (Some b) numbers i lt e =
    at_drop_more (repeat_after (Some b)) numbers i 0 lt
    ∙ cond-true (eqb b (get_or numbers i 0)) (Some (get_or numbers i 0)) (repeat_after (Some (get_or numbers i 0)) (drop (i + 1) numbers)) e
    ∙ ap (λ (n : ℕ). Some n) (sym (eqb-true b (get_or numbers i 0) e))

-- A number below all others stands twice nowhere.
wider : (b : ℕ) (xs : List ℕ) (found : Option ℕ) → ((n : ℕ) → 0 < times n xs → b < n) → IsLeastRepeated xs found → IsLeastRepeated (b ∷ xs) found
wider b xs None above h = λ n. elim (cases_eq b n) [
  | inl e ↦ elim (cases_lt 0 (times n xs)) [
    | inl some ↦ absurd (omega (arith, above n some))
    | inr none ↦ omega (arith, times_here n b xs e)
  ]
  | inr ne ↦ omega (arith, h n, times_other n b xs ne)
]
wider b xs (Some x) above h = (
  omega (arith, h.0, times_more x b xs),
  λ n two. elim (cases_eq b n) [
    | inl e ↦ absurd (omega (arith, times_here n b xs e, above n (omega (arith, times_here n b xs e))))
    | inr ne ↦ h.1 n (omega (arith, times_other n b xs ne))
  ],
)

above_first : (b x n : ℕ) (xs : List ℕ) → b ≤ x → b ≢ x → AllFrom x xs → 0 < times n (x ∷ xs) → b < n
above_first b x n xs le ne h some = elim (cases_eq x n) [
  | inl e ↦ omega (arith, ne)
  | inr other ↦ omega (arith, ne, from_times x n xs h (omega (arith, times_other n x xs other)))
]

least_after : (b : ℕ) (xs : List ℕ) → Rises (b ∷ xs) → IsLeastRepeated (b ∷ xs) (repeat_after (Some b) xs)
least_after b [] h = λ n. omega (arith, count_by-le-length (λ (other : ℕ). eqb other n) (b ∷ []))
least_after b (x ∷ xs) h = elim (cases_eq b x) [
  | inl e ↦
      subst (IsLeastRepeated (b ∷ x ∷ xs)) (sym (cond-true (eqb b x) (Some x) (repeat_after (Some x) xs) (eq-eqb b x e))) (
        omega (arith, times_here x b (x ∷ xs) e, times_here x x xs refl),
        λ n two. elim (cases_eq b n) [
          | inl same ↦ omega (arith, e, same)
          | inr ne ↦ omega (arith, e, from_times b n (x ∷ xs) h.0 (omega (arith, times_other n b (x ∷ xs) ne)))
        ],
      )
  | inr ne ↦
      subst (IsLeastRepeated (b ∷ x ∷ xs)) (sym (cond-false (eqb b x) (Some x) (repeat_after (Some x) xs) (ne_eqb b x ne)))
      (wider b (x ∷ xs) (repeat_after (Some x) xs) (λ n some. above_first b x n xs h.0.0 ne h.1.0 some) (least_after x xs h.1))
]

-- Of numbers that do not fall, it is the least that stands twice.
pub least_of_rising : (xs : List ℕ) → Rises xs → IsLeastRepeated xs (repeat_after None xs)
least_of_rising [] h = λ n. omega arith
least_of_rising (x ∷ xs) h = least_after x xs h

-- Where none stands twice, each is below the next.
pub strictly : (xs : List ℕ) → Rises xs → ((n : ℕ) → times n xs < 2) → IsStrictlyIncreasing xs
strictly [] h once k lt = absurd (omega arith)
strictly (x ∷ []) h once k lt = absurd (omega arith)
strictly (x ∷ y ∷ xs) h once zero lt = elim (cases_eq x y) [
  | inl e ↦ absurd (omega (arith, once y, times_here y x (y ∷ xs) e, times_here y y xs refl))
  | inr ne ↦ omega (arith, ne, h.0.0)
]
strictly (x ∷ y ∷ xs) h once (suc k) lt =
    let e : suc (k + 1) ≡ suc k + 1 = omega arith in
    subst (λ (m : ℕ). get_or (y ∷ xs) k 0 < get_or (x ∷ y ∷ xs) m 0) e
    (strictly (y ∷ xs) h.1 (λ n. omega (arith, once n, times_more n x (y ∷ xs))) k (omega arith))
