-- How often a number stands in a list, and the least that stands twice.
use Rattle.std.proofs.Common.{◌≡◌, ◌≢◌, ◌⊎◌, inl, inr, ◌↔◌, ℕ, ◌+◌, ◌<◌, ◌≤◌, min, eqb, leb, cond, Bool, true, false, List, [], ◌∷◌, Option, Some, None, refl, sym, ap, ◌∙◌, subst, arith, leb-true, leb-false, eq-eqb, ne_eqb}
use Rattle.std.specs.List.{filter, fold}
use Rattle.std.specs.List.Sorted.{IsPermutation}
use Rattle.std.proofs.lemmas.Bool.{cases_eq, cases_lt, cond-true, cond-false}
use Rattle.std.proofs.lemmas.List.Sums.{sum_by-cons}
use Rattle.std.proofs.lemmas.List.Sorted.{sum_by-IsPermutation}
use Rattle.swima_model.specs.Doubled.{smallest, times, stands_twice, doubled}
use Rattle.swima_model.specs.Repeated.{IsLeastRepeated, DoubledIsLeastRepeated}

-- A number before a list.
pub times_cons : (n x : ℕ) (xs : List ℕ) → times n (x ∷ xs) ≡ cond (eqb x n) 1 0 + times n xs
times_cons n x xs = sum_by-cons (λ (other : ℕ). cond (eqb other n) 1 0) x xs

pub times_here : (n x : ℕ) (xs : List ℕ) → x ≡ n → times n (x ∷ xs) ≡ 1 + times n xs
times_here n x xs e = times_cons n x xs ∙ ap (λ (same : Bool). cond same 1 0 + times n xs) (eq-eqb x n e)

pub times_other : (n x : ℕ) (xs : List ℕ) → x ≢ n → times n (x ∷ xs) ≡ times n xs
times_other n x xs ne =
    let e = times_cons n x xs ∙ ap (λ (same : Bool). cond same 1 0 + times n xs) (ne_eqb x n ne) in
    omega (arith, e)

pub times_more : (n x : ℕ) (xs : List ℕ) → times n xs ≤ times n (x ∷ xs)
times_more n x xs = elim (cases_eq x n) [ inl e ↦ omega (arith, times_here n x xs e) | inr ne ↦ omega (arith, times_other n x xs ne) ]

-- A number stands as often in any order.
pub times_permuted : (n : ℕ) (xs ys : List ℕ) → IsPermutation xs ys → times n ys ≡ times n xs
times_permuted n xs ys h = sum_by-IsPermutation (λ (other : ℕ). cond (eqb other n) 1 0) xs ys h

-- A filter keeps each number that passes as often as it stood.
kept : (p : ℕ → Bool) (n x : ℕ) (xs : List ℕ) (passes : Bool) → p x ≡ passes → (x ≡ n) ⊎ (x ≢ n) → times n (filter p xs) ≡ cond (p n) (times n xs) 0
    → times n (cond passes (x ∷ filter p xs) (filter p xs)) ≡ cond (p n) (times n (x ∷ xs)) 0
kept p n x xs true px (inl e) h =
    let pn = ap p (sym e) ∙ px in
    times_cons n x (filter p xs) ∙ ap (λ (k : ℕ). cond (eqb x n) 1 0 + k) (h ∙ cond-true (p n) (times n xs) 0 pn) ∙ sym (times_cons n x xs)
    ∙ sym (cond-true (p n) (times n (x ∷ xs)) 0 pn)
kept p n x xs true px (inr ne) h = times_other n x (filter p xs) ne ∙ h ∙ ap (λ (k : ℕ). cond (p n) k 0) (sym (times_other n x xs ne))
kept p n x xs false px (inl e) h =
    let pn = ap p (sym e) ∙ px in
    h ∙ cond-false (p n) (times n xs) 0 pn ∙ sym (cond-false (p n) (times n (x ∷ xs)) 0 pn)
kept p n x xs false px (inr ne) h = h ∙ ap (λ (k : ℕ). cond (p n) k 0) (sym (times_other n x xs ne))

none_kept : (passes : Bool) → times 0 [] ≡ cond passes (times 0 []) 0
none_kept true = refl
none_kept false = refl

pub times_filter : (p : ℕ → Bool) (n : ℕ) (xs : List ℕ) → times n (filter p xs) ≡ cond (p n) (times n xs) 0
times_filter p n [] = none_kept (p n)
times_filter p n (x ∷ xs) = kept p n x xs (p x) refl (cases_eq x n) (times_filter p n xs)

-- The smallest of numbers is one of them and above none.
fold_min_le : (a : ℕ) (xs : List ℕ) → fold min a xs ≤ a
fold_min_le a [] = omega arith
fold_min_le a (x ∷ xs) = omega (arith, fold_min_le (min a x) xs)

fold_min_below : (a n : ℕ) (xs : List ℕ) → 0 < times n xs → fold min a xs ≤ n
fold_min_below a n [] h = absurd (omega arith)
fold_min_below a n (x ∷ xs) h = elim (cases_eq x n) [
  | inl e ↦ omega (arith, fold_min_le (min a x) xs)
  | inr ne ↦ fold_min_below (min a x) n xs (omega (arith, times_other n x xs ne))
]

fold_min_in : (a : ℕ) (xs : List ℕ) → (fold min a xs ≡ a) ⊎ (0 < times (fold min a xs) xs)
fold_min_in a [] = inl refl
fold_min_in a (x ∷ xs) = elim (fold_min_in (min a x) xs) [
  | inl e ↦ elim (cases_lt a x) [
    | inl lt ↦ inl (omega (arith, e))
    | inr le ↦ inr (omega (arith, times_here (fold min (min a x) xs) x xs (omega (arith, e))))
  ]
  | inr h ↦ inr (omega (arith, h, times_more (fold min (min a x) xs) x xs))
]

smallest_in : (a : ℕ) (xs : List ℕ) → 0 < times (fold min a xs) (a ∷ xs)
smallest_in a xs = elim (fold_min_in a xs) [
  | inl e ↦ omega (arith, times_here (fold min a xs) a xs (sym e))
  | inr h ↦ omega (arith, h, times_more (fold min a xs) a xs)
]

smallest_below : (a n : ℕ) (xs : List ℕ) → 0 < times n (a ∷ xs) → fold min a xs ≤ n
smallest_below a n xs h = elim (cases_eq a n) [
  | inl e ↦ omega (arith, fold_min_le a xs)
  | inr ne ↦ fold_min_below a n xs (omega (arith, times_other n a xs ne))
]

least_from : (numbers found : List ℕ) → ((n : ℕ) → (0 < times n found) ↔ (2 ≤ times n numbers)) → IsLeastRepeated numbers (smallest found)
least_from numbers [] h = λ n. elim (cases_lt (times n numbers) 2) [ inl lt ↦ lt | inr le ↦ absurd (omega (arith, (h n).1 le)) ]
least_from numbers (a ∷ xs) h = ((h (fold min a xs)).0 (smallest_in a xs), λ n two. smallest_below a n xs ((h n).1 two))

twice : (k m : ℕ) (test : Bool) → leb 2 k ≡ test → m ≡ cond test k 0 → (0 < m) ↔ (2 ≤ k)
twice k m true t e = let le = leb-true 2 k t in (λ _. le, λ _. omega (arith, e, le))
twice k m false t e = let lt = leb-false 2 k t in (λ h. absurd (omega (arith, e)), λ h. absurd (omega (arith, lt)))

-- `doubled` gives the least number that stands at least twice.
pub doubled_least : (numbers : List ℕ) → IsLeastRepeated numbers (doubled numbers)
doubled_least numbers =
    least_from numbers (filter (stands_twice numbers) numbers)
    (λ n. twice (times n numbers) (times n (filter (stands_twice numbers) numbers)) (leb 2 (times n numbers)) refl (times_filter (stands_twice numbers) n numbers))

-- There is one least at most.
pub one_least : (numbers : List ℕ) (a b : Option ℕ) → IsLeastRepeated numbers a → IsLeastRepeated numbers b → a ≡ b
one_least numbers None None h g = refl
one_least numbers None (Some y) h g = absurd (omega (arith, h y, g.0))
one_least numbers (Some x) None h g = absurd (omega (arith, g x, h.0))
one_least numbers (Some x) (Some y) h g =
    let e : x ≡ y = omega (arith, h.1 y g.0, g.1 x h.0) in
    ap (λ (n : ℕ). Some n) e

-- It is the same in any order.
pub least_permuted : (xs ys : List ℕ) (found : Option ℕ) → IsPermutation xs ys → IsLeastRepeated ys found → IsLeastRepeated xs found
least_permuted xs ys None p h = λ n. omega (arith, h n, times_permuted n xs ys p)
least_permuted xs ys (Some x) p h =
    (omega (arith, h.0, times_permuted x xs ys p), λ n two. h.1 n (omega (arith, times_permuted n xs ys p)))

-- So `doubled` gives what has been found in a list put in another order.
pub found_doubled : (xs ys : List ℕ) (found : Option ℕ) → IsPermutation xs ys → IsLeastRepeated ys found → found ≡ doubled xs
found_doubled xs ys found p h = one_least xs found (doubled xs) (least_permuted xs ys found p h) (doubled_least xs)

-- `doubled` is decided by what it means.
pub doubled_is_least_repeated : DoubledIsLeastRepeated
doubled_is_least_repeated numbers found = (
  λ e. subst (IsLeastRepeated numbers) e (doubled_least numbers),
  λ h. one_least numbers (doubled numbers) found (doubled_least numbers) h,
)
