-- Things put in order of a number that each has.
use Rattle.std.proofs.Common.{◌≡◌, filter, inl, inr, ℕ, ◌<◌, ◌≤◌, eqb, leb, ltb, cond, not, ◌&&◌, Bool, true, false, List, [], ◌∷◌, Less, Equal, Greater, is_lt, map, nat_cmp, refl, sym, ap, ap₂, ◌∙◌, subst, arith, leb-true, leb-false, eq-eqb, ne_eqb, eqb-true}
use Rattle.std.specs.List.Sorted.{IsPermutation, IsNonDecreasingBy, IsStableByKey, ties}
use Rattle.std.proofs.lemmas.Bool.{cases_lt, cond_both, cond-true, cond-false}
use Rattle.std.proofs.lemmas.Bool.Decides.{nat_tests}
use Rattle.std.proofs.lemmas.List.Elements.{filter_agree}
use Rattle.std.proofs.lemmas.List.Sorted.{IsPermutation-refl, IsPermutation-cons, IsPermutation-middle, IsPermutation-trans}
use Rattle.swima_model.specs.ByNumber.{put_by, in_order_by}
use Rattle.swima_model.proofs.Rises.{AllFrom, Rises, from_lower, rises_by}

-- Those of a number, as they stand.
abbrev of_number : {X : Type 0} → (X → ℕ) → ℕ → List X → List X
of_number f n xs = filter (λ x. eqb (f x) n) xs

-- Putting one in its place keeps the order.
put_from : {X : Type 0} (f : X → ℕ) (n : ℕ) (r : X) (rs : List X) → n ≤ f r → AllFrom n (map f rs) → AllFrom n (map f (put_by f r rs))
put_from f n r [] le h = (le, tt)
put_from f n r (first ∷ others) le h =
    cond_both (leb (f r) (f first)) (r ∷ first ∷ others) (first ∷ put_by f r others) (λ rs. AllFrom n (map f rs))
    (λ _. (le, h)) (λ _. (h.0, put_from f n r others le h.1))

put_rises : {X : Type 0} (f : X → ℕ) (r : X) (rs : List X) → Rises (map f rs) → Rises (map f (put_by f r rs))
put_rises f r [] h = (tt, tt)
put_rises f r (first ∷ others) h =
    cond_both (leb (f r) (f first)) (r ∷ first ∷ others) (first ∷ put_by f r others) (λ rs. Rises (map f rs))
    (λ yes. let le = leb-true (f r) (f first) yes in ((le, from_lower (f r) (f first) (map f others) le h.0), h))
    (λ no. let lt = leb-false (f r) (f first) no in (put_from f (f first) r others (omega (arith, lt)) h.0, put_rises f r others h.1))

pub in_order_rises : {X : Type 0} (f : X → ℕ) (xs : List X) → Rises (map f (in_order_by f xs))
in_order_rises f [] = tt
in_order_rises f (r ∷ xs) = put_rises f r (in_order_by f xs) (in_order_rises f xs)

-- It changes places only.
put_permutation : {X : Type 0} (f : X → ℕ) (r : X) (rs : List X) → IsPermutation (r ∷ rs) (put_by f r rs)
put_permutation f r [] = IsPermutation-refl (r ∷ [])
put_permutation f r (first ∷ others) =
    cond_both (leb (f r) (f first)) (r ∷ first ∷ others) (first ∷ put_by f r others) (λ rs. IsPermutation (r ∷ first ∷ others) rs)
    (λ _. IsPermutation-refl (r ∷ first ∷ others))
    (λ _. IsPermutation-trans (r ∷ first ∷ others) (first ∷ r ∷ others) (first ∷ put_by f r others) (IsPermutation-middle (r ∷ []) first others)
    (IsPermutation-cons first (r ∷ others) (put_by f r others) (put_permutation f r others)))

pub in_order_permutation : {X : Type 0} (f : X → ℕ) (xs : List X) → IsPermutation xs (in_order_by f xs)
in_order_permutation f [] = IsPermutation-refl []
in_order_permutation f (r ∷ xs) =
    IsPermutation-trans (r ∷ xs) (r ∷ in_order_by f xs) (put_by f r (in_order_by f xs)) (IsPermutation-cons r xs (in_order_by f xs) (in_order_permutation f xs))
    (put_permutation f r (in_order_by f xs))

-- It keeps those of one number as they stood.
exchange : {X : Type 0} (here there : Bool) (r first : X) (rs : List X) → (here ≡ true → there ≡ true → ⊥)
    → cond there (first ∷ cond here (r ∷ rs) rs) (cond here (r ∷ rs) rs) ≡ cond here (r ∷ cond there (first ∷ rs) rs) (cond there (first ∷ rs) rs)
exchange true true r first rs not_both = absurd (not_both refl refl)
exchange true false r first rs not_both = refl
exchange false true r first rs not_both = refl
exchange false false r first rs not_both = refl

put_of_number : {X : Type 0} (f : X → ℕ) (n : ℕ) (r : X) (rs : List X) → of_number f n (put_by f r rs) ≡ of_number f n (r ∷ rs)
put_of_number f n r [] = refl
put_of_number f n r (first ∷ others) =
    cond_both (leb (f r) (f first)) (r ∷ first ∷ others) (first ∷ put_by f r others) (λ rs. of_number f n rs ≡ of_number f n (r ∷ first ∷ others))
    (λ _. refl)
    (λ no.
    let lt = leb-false (f r) (f first) no in
    ap (λ rs. cond (eqb (f first) n) (first ∷ rs) rs) (put_of_number f n r others)
    ∙ exchange (eqb (f r) n) (eqb (f first) n) r first (of_number f n others)
    (λ here there. omega (arith, lt, eqb-true (f r) n here, eqb-true (f first) n there)))

pub in_order_of_number : {X : Type 0} (f : X → ℕ) (n : ℕ) (xs : List X) → of_number f n (in_order_by f xs) ≡ of_number f n xs
in_order_of_number f n [] = refl
in_order_of_number f n (r ∷ xs) =
    put_of_number f n r (in_order_by f xs) ∙ ap (λ rs. cond (eqb (f r) n) (r ∷ rs) rs) (in_order_of_number f n xs)

-- Those in order are decided by those of each number.
pub below_none : {X : Type 0} (f : X → ℕ) (m n : ℕ) (rs : List X) → m < n → AllFrom n (map f rs) → of_number f m rs ≡ []
below_none f m n [] lt h = refl
below_none f m n (r ∷ rs) lt h =
    cond-false (eqb (f r) m) (r ∷ of_number f m rs) (of_number f m rs) (ne_eqb (f r) m (λ e. omega (arith, h.0, e))) ∙ below_none f m n rs lt h.1

first_of_number : {X : Type 0} (f : X → ℕ) (r : X) (rs : List X) → of_number f (f r) (r ∷ rs) ≡ r ∷ of_number f (f r) rs
first_of_number f r rs = cond-true (eqb (f r) (f r)) (r ∷ of_number f (f r) rs) (of_number f (f r) rs) (eq-eqb (f r) (f r) refl)

nothing : {X : Type 0} (r : X) (rs : List X) → (r ∷ rs) ≡ [] → ⊥
nothing r rs e = cc

not_below : {X : Type 0} (f : X → ℕ) (r s : X) (rs ss : List X) → Rises (map f (s ∷ ss))
    → ((x : X) → of_number f (f x) (r ∷ rs) ≡ of_number f (f x) (s ∷ ss)) → f s ≤ f r
not_below f r s rs ss up same = elim (cases_lt (f r) (f s)) [
  | inl lt ↦
      let none : of_number f (f r) (s ∷ ss) ≡ [] = below_none f (f r) (f s) (s ∷ ss) lt (omega arith, up.0) in
      absurd (nothing r (of_number f (f r) rs) (sym (first_of_number f r rs) ∙ same r ∙ none))
  | inr le ↦ le
]

rest_same : {X : Type 0} (test : Bool) (r s : X) (rs ss : List X) → cond test (r ∷ rs) rs ≡ cond test (s ∷ ss) ss → rs ≡ ss
rest_same true r s rs ss e = cc
rest_same false r s rs ss e = e

head_same : {X : Type 0} (r s : X) (rs ss : List X) → (r ∷ rs) ≡ (s ∷ ss) → r ≡ s
head_same r s rs ss e = cc

both : {X : Type 0} (r s : X) (rs ss : List X) → r ≡ s → rs ≡ ss → (r ∷ rs) ≡ (s ∷ ss)
both r s rs ss e f = cc

pub one_order : {X : Type 0} (f : X → ℕ) (rs ss : List X) → Rises (map f rs) → Rises (map f ss)
    → ((x : X) → of_number f (f x) rs ≡ of_number f (f x) ss) → rs ≡ ss
one_order f [] [] up down same = refl
one_order f [] (s ∷ ss) up down same = absurd (nothing s (of_number f (f s) ss) (sym (first_of_number f s ss) ∙ sym (same s)))
one_order f (r ∷ rs) [] up down same = absurd (nothing r (of_number f (f r) rs) (sym (first_of_number f r rs) ∙ same r))
one_order f (r ∷ rs) (s ∷ ss) up down same =
    let e : f s ≡ f r = omega (arith, not_below f r s rs ss down same, not_below f s r ss rs up (λ x. sym (same x))) in
    let heads : r ∷ of_number f (f r) rs ≡ s ∷ of_number f (f r) ss =
    sym (first_of_number f r rs) ∙ same r ∙ cond-true (eqb (f s) (f r)) (s ∷ of_number f (f r) ss) (of_number f (f r) ss) (eq-eqb (f s) (f r) e) in
    both r s rs ss (head_same r s (of_number f (f r) rs) (of_number f (f r) ss) heads)
    (one_order f rs ss up.1 down.1
    (λ x. rest_same (eqb (f r) (f x)) r s (of_number f (f x) rs) (of_number f (f x) ss)
    (subst (λ (n : ℕ). cond (eqb (f r) (f x)) (r ∷ of_number f (f x) rs) (of_number f (f x) rs) ≡ cond (eqb n (f x)) (s ∷ of_number f (f x) ss) (of_number f (f x) ss)) e (same x))))

-- Things in order of number, those of one number as they stood, are `in_order_by`.
pub is_in_order : {X : Type 0} (f : X → ℕ) (xs ordered : List X) → Rises (map f ordered)
    → ((x : X) → of_number f (f x) ordered ≡ of_number f (f x) xs) → ordered ≡ in_order_by f xs
is_in_order f xs ordered up same =
    one_order f ordered (in_order_by f xs) up (in_order_rises f xs) (λ x. same x ∙ sym (in_order_of_number f (f x) xs))

-- So is what a stable sort by number gives.
less : (below same : Bool) → is_lt (cond below Less (cond same Equal Greater)) ≡ below
less true same = refl
less false true = refl
less false false = refl

neither : (m n : ℕ) → (not (ltb m n) && not (ltb n m)) ≡ eqb n m
neither m n = grind (arith, nat_tests)

ties_of_number : {X : Type 0} (f : X → ℕ) (x r : X) → ties (λ (a b : X). is_lt (nat_cmp (f a) (f b))) x r ≡ eqb (f r) (f x)
ties_of_number f x r =
    ap₂ (λ (below above : Bool). not below && not above) (less (ltb (f x) (f r)) (eqb (f x) (f r))) (less (ltb (f r) (f x)) (eqb (f r) (f x))) ∙ neither (f x) (f r)

pub sorted_is_in_order : {X : Type 0} (f : X → ℕ) (xs ordered : List X) → IsNonDecreasingBy f ordered → IsStableByKey f nat_cmp xs ordered
    → ordered ≡ in_order_by f xs
sorted_is_in_order f xs ordered up stable =
    is_in_order f xs ordered (rises_by f ordered up)
    (λ x.
    let tie = ties (λ a b. is_lt (nat_cmp (f a) (f b))) x in
    sym (filter_agree tie (λ r. eqb (f r) (f x)) (ties_of_number f x) ordered) ∙ stable x
    ∙ filter_agree tie (λ r. eqb (f r) (f x)) (ties_of_number f x) xs)
