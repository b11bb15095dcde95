-- Places one after another, and what is given of each.
use Rattle.std.proofs.Common.{◌≡◌, ℕ, zero, suc, ◌+◌, ◌-◌, ◌<◌, ◌≤◌, Bool, false, List, [], ◌++◌, Option, Some, None, append_assoc, refl, sym, ap, ◌∙◌, arith}
use Rattle.coswid_links.specs.RivalChains.{IsFirst, span}

-- Places of which nothing is given.
pub span_none : {B : Type 0} (f : ℕ → List B) (at n : ℕ) → ((k : ℕ) → at ≤ k → k < at + n → f k ≡ []) → span f at n ≡ []
span_none f at zero h = refl
span_none f at (suc n) h =
    ap (λ (xs : List _). xs ++ span f (at + 1) n) (h at (omega arith) (omega arith))
    ∙ span_none f (at + 1) n (λ k ge lt. h k (omega arith) (omega arith))

-- Some places, and those after them.
pub span_split : {B : Type 0} (f : ℕ → List B) (at m n : ℕ) → span f at (m + n) ≡ span f at m ++ span f (at + m) n
span_split f at zero n =
    let count : 0 + n ≡ n = omega arith in
    let place : at ≡ at + 0 = omega arith in
    ap (λ (c : ℕ). span f at c) count ∙ ap (λ (k : ℕ). span f k n) place
span_split f at (suc m) n =
    let count : suc m + n ≡ suc (m + n) = omega arith in
    let place : at + 1 + m ≡ at + suc m = omega arith in
    ap (λ (c : ℕ). span f at c) count
    ∙ ap (λ (xs : List _). f at ++ xs) (span_split f (at + 1) m n)
    ∙ sym (append_assoc (f at) (span f (at + 1) m) (span f (at + 1 + m) n))
    ∙ ap (λ (k : ℕ). (f at ++ span f (at + 1) m) ++ span f k n) place

-- what is given from the first place on that passes a test, where nothing is given of others
abbrev pub from_first : {B : Type 0} → (ℕ → List B) → ℕ → Option ℕ → List B
from_first f to None = []
from_first f to (Some m) = span f m (to - m)

pub span_first : {B : Type 0} (f : ℕ → List B) (test : ℕ → Bool) (at to : ℕ) (r : Option ℕ) → at ≤ to
    → ((k : ℕ) → test k ≡ false → f k ≡ []) → IsFirst test at to r → span f at (to - at) ≡ from_first f to r
span_first f test at to None le failed is = span_none f at (to - at) (λ k ge lt. failed k (is k ge (omega arith)))
span_first f test at to (Some m) le failed is =
    let count : to - at ≡ (m - at) + (to - m) = omega (arith, is.0, is.1) in
    let reach : at + (m - at) ≡ m = omega (arith, is.0) in
    ap (λ (n : ℕ). span f at n) count
    ∙ span_split f at (m - at) (to - m)
    ∙ ap (λ (xs : List _). xs ++ span f (at + (m - at)) (to - m)) (span_none f at (m - at) (λ k ge lt. failed k (is.3 k ge (omega (arith, is.0)))))
    ∙ ap (λ (k : ℕ). span f k (to - m)) reach

-- What is given of the first place, and of those after it.
pub span_on : {B : Type 0} (f : ℕ → List B) (m to : ℕ) → m < to → span f m (to - m) ≡ f m ++ span f (m + 1) (to - (m + 1))
span_on f m to lt =
    let count : to - m ≡ suc (to - (m + 1)) = omega arith in
    ap (λ (n : ℕ). span f m n) count

-- With what is given of a place put after the rest, that of the places after it is left.
pub put_more : {B : Type 0} (f : ℕ → List B) (m to : ℕ) (old new all : List B) → m < to → old ++ span f m (to - m) ≡ all → new ≡ old ++ f m
    → new ++ span f (m + 1) (to - (m + 1)) ≡ all
put_more f m to old new all lt so_far put =
    let rest = span f (m + 1) (to - (m + 1)) in
    ap (λ (xs : List _). xs ++ rest) put ∙ append_assoc old (f m) rest ∙ ap (λ (xs : List _). old ++ xs) (sym (span_on f m to lt)) ∙ so_far

-- A step of a walk: what is given of the place, and from the next on of which something is given.
pub walks_on : {B : Type 0} (f : ℕ → List B) (test : ℕ → Bool) (m to : ℕ) (r : Option ℕ) → m < to
    → ((k : ℕ) → test k ≡ false → f k ≡ []) → IsFirst test (m + 1) to r → span f m (to - m) ≡ f m ++ from_first f to r
walks_on f test m to r lt failed is =
    span_on f m to lt ∙ ap (λ (xs : List _). f m ++ xs) (span_first f test (m + 1) to r (omega arith) failed is)
