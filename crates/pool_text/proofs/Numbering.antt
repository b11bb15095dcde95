-- Values with their numbers, one after another.
use Rattle.std.proofs.Common.{◌≡◌, ◌<◌, ◌≤◌, ◌+◌, ◌++◌, ◌∷◌, ◌∙◌, [], ℕ, List, append_assoc, append-nil, drop, get_or, length, sym, ap, arith}
use Rattle.std.specs.Prelude.{min}
use Rattle.std.specs.List.{zip}
use Rattle.std.proofs.lemmas.List.{drop_all, drop_more}
use Rattle.std.proofs.lemmas.Slice.Zip.{get_or-zip, length-zip}
use Rattle.pool_text.specs.Text.{numbered}

-- ---- pairs of two lists

pair_is : {A B : Type 0} (x a : A) (y b : B) → x ≡ a → y ≡ b → ◌≡◌ {A = A × B} (x, y) (a, b)
pair_is {A} {B} x a y b left right = ap (λ (one : A). (one, y)) left ∙ ap (λ (other : B). (a, other)) right

-- Where both lists have an item at a place, their pairs have both there.
pair_at : {A B : Type 0} (xs : List A) (ys : List B) (k : ℕ) (x : A) (y : B) → k < length xs → k < length ys → x ≡ get_or xs k x → y ≡ get_or ys k y
    → ◌≡◌ {A = A × B} (x, y) (get_or (zip xs ys) k (x, y))
pair_at xs ys k x y less also left right = pair_is x (get_or xs k x) y (get_or ys k y) left right ∙ sym (get_or-zip xs ys k (x, y) less also)

pairs_within : {A B : Type 0} (xs : List A) (ys : List B) (k : ℕ) → k < min (length xs) (length ys) → k < length (zip xs ys)
pairs_within xs ys k less = omega (arith, less, length-zip xs ys)

-- ---- texts

-- The text of the value at a place is put, and those of the values after it are left.
pub one_put : {A : Type 0} (text : ℕ → A → List ℕ) (xs : List A) (k : ℕ) (x : A) (out new all : List ℕ) → k < length xs → x ≡ get_or xs k x
    → out ++ numbered text (k + 1) (drop k xs) ≡ all → new ≡ out ++ text (k + 1) x → new ++ numbered text (k + 1 + 1) (drop (k + 1) xs) ≡ all
one_put {A} text xs k x out new all less at so_far put =
    let rest : List ℕ = numbered text (k + 1 + 1) (drop (k + 1) xs) in
    ap (λ (o : List ℕ). o ++ rest) put ∙ append_assoc out (text (k + 1) x) rest
    ∙ ap (λ (ys : List A). out ++ numbered text (k + 1) ys) (ap (λ (y : A). y ∷ drop (k + 1) xs) at ∙ sym (drop_more xs k x less)) ∙ so_far

-- At the end of the list all are put.
pub all_put : {A : Type 0} (text : ℕ → A → List ℕ) (xs : List A) (k : ℕ) (out all : List ℕ) → length xs ≤ k → out ++ numbered text (k + 1) (drop k xs) ≡ all → out ≡ all
all_put {A} text xs k out all over so_far =
    sym (append-nil out) ∙ ap (λ (ys : List A). out ++ numbered text (k + 1) ys) (sym (drop_all k xs over)) ∙ so_far

-- The same of the pairs of two lists, up to the end of the shorter one.
pub pair_put : {A B : Type 0} (text : ℕ → A × B → List ℕ) (xs : List A) (ys : List B) (k : ℕ) (x : A) (y : B) (out new all : List ℕ) → k < min (length xs) (length ys)
    → x ≡ get_or xs k x → y ≡ get_or ys k y → out ++ numbered text (k + 1) (drop k (zip xs ys)) ≡ all → new ≡ out ++ text (k + 1) (x, y)
    → new ++ numbered text (k + 1 + 1) (drop (k + 1) (zip xs ys)) ≡ all
pair_put text xs ys k x y out new all less left right =
    one_put text (zip xs ys) k (x, y) out new all (pairs_within xs ys k less) (pair_at xs ys k x y (omega (arith, less)) (omega (arith, less)) left right)

pub pairs_put : {A B : Type 0} (text : ℕ → A × B → List ℕ) (xs : List A) (ys : List B) (k : ℕ) (out all : List ℕ) → min (length xs) (length ys) ≤ k
    → out ++ numbered text (k + 1) (drop k (zip xs ys)) ≡ all → out ≡ all
pairs_put text xs ys k out all over = all_put text (zip xs ys) k out all (omega (arith, over, length-zip xs ys))

-- Of three lists, the first two of which are paired first.
pub triple_put : {A B C : Type 0} (text : ℕ → (A × B) × C → List ℕ) (xs : List A) (ys : List B) (zs : List C) (k : ℕ) (x : A) (y : B) (z : C) (out new all : List ℕ)
    → k < min (min (length xs) (length ys)) (length zs) → x ≡ get_or xs k x → y ≡ get_or ys k y → z ≡ get_or zs k z
    → out ++ numbered text (k + 1) (drop k (zip (zip xs ys) zs)) ≡ all → new ≡ out ++ text (k + 1) ((x, y), z)
    → new ++ numbered text (k + 1 + 1) (drop (k + 1) (zip (zip xs ys) zs)) ≡ all
triple_put text xs ys zs k x y z out new all less first second third =
    pair_put text (zip xs ys) zs k (x, y) z out new all (omega (arith, less, length-zip xs ys))
    (pair_at xs ys k x y (omega (arith, less)) (omega (arith, less)) first second) third

pub triples_put : {A B C : Type 0} (text : ℕ → (A × B) × C → List ℕ) (xs : List A) (ys : List B) (zs : List C) (k : ℕ) (out all : List ℕ)
    → min (min (length xs) (length ys)) (length zs) ≤ k → out ++ numbered text (k + 1) (drop k (zip (zip xs ys) zs)) ≡ all → out ≡ all
triples_put text xs ys zs k out all over = pairs_put text (zip xs ys) zs k out all (omega (arith, over, length-zip xs ys))
