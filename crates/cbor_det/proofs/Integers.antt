-- The order of integers by their canonical spellings.
use Rattle.std.proofs.Common.{◌≡◌, ℕ, zero, suc, ◌+◌, ◌*◌, ◌/◌, ◌%◌, ◌^◌, ◌<◌, ◌≤◌, inl, inr, List, [], ◌∷◌, ◌++◌, length, refl, sym, ap, ◌∙◌, arith, Bool, true, false, pos, negsuc, pow-suc}
use Rattle.std.specs.Prelude.{nat_lt}
use Rattle.std.proofs.lemmas.Bool.{both_ways, cases_Bool, cond_both, leb-false, ltb-true, ltb-false}
use Rattle.std.proofs.lemmas.Bool.Decides.{nat_tests}
use Rattle.std.specs.Ordering.{nat_cmp, match_ordering, ordering_then, ordering_reverse}
use Rattle.std.proofs.Common.{ℤ, SFits, w64, to_z, of_z, to_z-of_z}
use Rattle.std.specs.Int.Signed.{lt_z, le_z}
use Rattle.std.proofs.lemmas.Cmp.{nat_list_cmp_total}
use Rattle.std.specs.declared.cmp.Ordering.{Ordering}
use Rattle.std.specs.declared.cmp.Ordering.TheVariants.{Less, Equal, Greater}
use Rattle.std.specs.Cmp.Lexicographic.{slice_cmp}
use Rattle.wire_base.specs.Numbers.{octets_of}
use Rattle.wire_base.proofs.Spelled.{length-octets_of}
use Rattle.cbor_det.specs.Term.{integer}
use Rattle.cbor_det.specs.Canonical.{Form, direct, one, two, four, eight, bound, head, shortest, short_head}
use Rattle.cbor_det.proofs.Written.{short_fits}
use Rattle.cbor_det.specs.Adding.{is_above}

cmp_less : (x y : ℕ) → x < y → nat_cmp x y ≡ Less
cmp_less x y lt = grind (arith, nat_tests)

cmp_same : (x : ℕ) → nat_cmp x x ≡ Equal
cmp_same x = grind (arith, nat_tests)

-- Of lists of one length, a difference before decides.
less_by : (o : Ordering) (r s : Ordering) → (r ≡ Less → s ≡ Less) → ordering_then o r ≡ Less → ordering_then o s ≡ Less
less_by Less r s more less = refl
less_by Equal r s more less = more less
less_by Greater r s more less = cc

less_front : (xs ys zs ws : List ℕ) → length xs ≡ length ys → slice_cmp nat_cmp xs ys ≡ Less → slice_cmp nat_cmp (xs ++ zs) (ys ++ ws) ≡ Less
less_front [] [] zs ws len less = cc
less_front [] (y ∷ ys) zs ws len less = absurd (omega (arith, len))
less_front (x ∷ xs) [] zs ws len less = absurd (omega (arith, len))
less_front (x ∷ xs) (y ∷ ys) zs ws len less =
    less_by (nat_cmp x y) (slice_cmp nat_cmp xs ys) (slice_cmp nat_cmp (xs ++ zs) (ys ++ ws)) (λ e. less_front xs ys zs ws (omega (arith, len)) e) less

same_front : (xs zs ws : List ℕ) → slice_cmp nat_cmp (xs ++ zs) (xs ++ ws) ≡ slice_cmp nat_cmp zs ws
same_front [] zs ws = refl
same_front (x ∷ xs) zs ws = ap (λ (o : Ordering). ordering_then o (slice_cmp nat_cmp (xs ++ zs) (xs ++ ws))) (cmp_same x) ∙ same_front xs zs ws

first_less : (x y : ℕ) (xs ys : List ℕ) → x < y → slice_cmp nat_cmp (x ∷ xs) (y ∷ ys) ≡ Less
first_less x y xs ys lt = ap (λ (o : Ordering). ordering_then o (slice_cmp nat_cmp xs ys)) (cmp_less x y lt)

pub octets_less : (size n m : ℕ) → n < m → m < 256 ^ size → slice_cmp nat_cmp (octets_of size n) (octets_of size m) ≡ Less
unfolding octets_of
octets_less zero n m lt fits = absurd (omega arith)
octets_less (suc size) n m lt fits =
    let power : 256 ^ suc size ≡ 256 ^ size * 256 = pow-suc 256 size in
    let high : m / 256 < 256 ^ size = omega arith in
    elim (cases_Bool (nat_lt (n / 256) (m / 256))) [
      | inl e ↦ less_front (octets_of size (n / 256)) (octets_of size (m / 256)) (n % 256 ∷ []) (m % 256 ∷ [])
          (length-octets_of size (n / 256) ∙ sym (length-octets_of size (m / 256))) (octets_less size (n / 256) (m / 256) (ltb-true (n / 256) (m / 256) e) high)
      | inr e ↦
          let behind : m / 256 ≤ n / 256 = ltb-false (n / 256) (m / 256) e in
          let same : n / 256 ≡ m / 256 = omega arith in
          ap (λ (k : ℕ). slice_cmp nat_cmp (octets_of size k ++ (n % 256) ∷ []) (octets_of size (m / 256) ++ (m % 256) ∷ [])) same
          ∙ same_front (octets_of size (m / 256)) (n % 256 ∷ []) (m % 256 ∷ []) ∙ first_less (n % 256) (m % 256) [] [] (omega arith)
    ]

-- the first number that a longer form is taken for
abbrev least : Form → ℕ
least direct = 0
least one = 24
least two = 2 ^ 8
least four = 2 ^ 16
least eight = 2 ^ 32

short_least : (n : ℕ) → least (shortest n) ≤ n
short_least n =
    cond_both (nat_lt n 24) _ _ (λ (form : Form). least form ≤ n) (λ e. omega arith) (λ e0.
    cond_both (nat_lt n (2 ^ 8)) _ _ (λ (form : Form). least form ≤ n) (λ e. ltb-false n 24 e0) (λ e1.
    cond_both (nat_lt n (2 ^ 16)) _ _ (λ (form : Form). least form ≤ n) (λ e. ltb-false n (2 ^ 8) e1) (λ e2.
    cond_both (nat_lt n (2 ^ 32)) _ _ (λ (form : Form). least form ≤ n) (λ e. ltb-false n (2 ^ 16) e2) (λ e3. ltb-false n (2 ^ 32) e3))))

same_form : (x size n m : ℕ) → n < m → m < 256 ^ size → slice_cmp nat_cmp (x ∷ octets_of size n) (x ∷ octets_of size m) ≡ Less
same_form x size n m lt fits = ap (λ (o : Ordering). ordering_then o (slice_cmp nat_cmp (octets_of size n) (octets_of size m))) (cmp_same x) ∙ octets_less size n m lt fits

-- Heads of one type in their shortest forms have the order of their arguments.
heads_less : (f g : Form) (major n m : ℕ) → n < m → least f ≤ n → n < bound f → least g ≤ m → m < bound g → slice_cmp nat_cmp (head f major n) (head g major m) ≡ Less
heads_less direct direct major n m lt from to at below = first_less (32 * major + n) (32 * major + m) [] [] (omega arith)
heads_less direct one major n m lt from to at below = first_less (32 * major + n) (32 * major + 24) [] (octets_of 1 m) (omega arith)
heads_less direct two major n m lt from to at below = first_less (32 * major + n) (32 * major + 25) [] (octets_of 2 m) (omega arith)
heads_less direct four major n m lt from to at below = first_less (32 * major + n) (32 * major + 26) [] (octets_of 4 m) (omega arith)
heads_less direct eight major n m lt from to at below = first_less (32 * major + n) (32 * major + 27) [] (octets_of 8 m) (omega arith)
heads_less one direct major n m lt from to at below = absurd (omega arith)
heads_less one one major n m lt from to at below = same_form (32 * major + 24) 1 n m lt (omega arith)
heads_less one two major n m lt from to at below = first_less (32 * major + 24) (32 * major + 25) (octets_of 1 n) (octets_of 2 m) (omega arith)
heads_less one four major n m lt from to at below = first_less (32 * major + 24) (32 * major + 26) (octets_of 1 n) (octets_of 4 m) (omega arith)
heads_less one eight major n m lt from to at below = first_less (32 * major + 24) (32 * major + 27) (octets_of 1 n) (octets_of 8 m) (omega arith)
heads_less two direct major n m lt from to at below = absurd (omega arith)
heads_less two one major n m lt from to at below = absurd (omega arith)
heads_less two two major n m lt from to at below = same_form (32 * major + 25) 2 n m lt (omega arith)
heads_less two four major n m lt from to at below = first_less (32 * major + 25) (32 * major + 26) (octets_of 2 n) (octets_of 4 m) (omega arith)
heads_less two eight major n m lt from to at below = first_less (32 * major + 25) (32 * major + 27) (octets_of 2 n) (octets_of 8 m) (omega arith)
heads_less four direct major n m lt from to at below = absurd (omega arith)
heads_less four one major n m lt from to at below = absurd (omega arith)
heads_less four two major n m lt from to at below = absurd (omega arith)
heads_less four four major n m lt from to at below = same_form (32 * major + 26) 4 n m lt (omega arith)
heads_less four eight major n m lt from to at below = first_less (32 * major + 26) (32 * major + 27) (octets_of 4 n) (octets_of 8 m) (omega arith)
heads_less eight direct major n m lt from to at below = absurd (omega arith)
heads_less eight one major n m lt from to at below = absurd (omega arith)
heads_less eight two major n m lt from to at below = absurd (omega arith)
heads_less eight four major n m lt from to at below = absurd (omega arith)
heads_less eight eight major n m lt from to at below = same_form (32 * major + 27) 8 n m lt (omega arith)

short_less : (major n m : ℕ) → n < m → m < 2 ^ 64 → slice_cmp nat_cmp (short_head major n) (short_head major m) ≡ Less
short_less major n m lt fits = heads_less (shortest n) (shortest m) major n m lt (short_least n) (short_fits n (omega arith)) (short_least m) (short_fits m fits)

same_cmp : (xs : List ℕ) → slice_cmp nat_cmp xs xs ≡ Equal
same_cmp [] = refl
same_cmp (x ∷ xs) = ap (λ (o : Ordering). ordering_then o (slice_cmp nat_cmp xs xs)) (cmp_same x) ∙ same_cmp xs

abbrev is_greater : Ordering → Bool
is_greater o = match_ordering o false false true

not_above : (major n m : ℕ) → n ≤ m → m < 2 ^ 64 → false ≡ is_greater (slice_cmp nat_cmp (short_head major n) (short_head major m))
not_above major n m le fits =
    elim (cases_Bool (nat_lt n m)) [
      | inl e ↦ ap (λ (o : Ordering). is_greater o) (sym (short_less major n m (ltb-true n m e) fits))
      | inr e ↦
          let behind : m ≤ n = ltb-false n m e in
          let same : n ≡ m = omega arith in
          ap (λ (o : Ordering). is_greater o) (sym (ap (λ (k : ℕ). slice_cmp nat_cmp (short_head major k) (short_head major m)) same ∙ same_cmp (short_head major m)))
    ]

-- One head is above another of its type where its argument is.
head_above : (major n m : ℕ) → n < 2 ^ 64 → m < 2 ^ 64 → nat_lt m n ≡ is_greater (slice_cmp nat_cmp (short_head major n) (short_head major m))
head_above major n m small fits =
    elim (cases_Bool (nat_lt m n)) [
      | inl e ↦ e
          ∙ ap (λ (o : Ordering). is_greater o) (sym (nat_list_cmp_total.antisymm (short_head major n) (short_head major m) ∙ ap (λ (o : Ordering). ordering_reverse o) (short_less major m n (ltb-true m n e) small)))
      | inr e ↦ e ∙ not_above major n m (ltb-false m n e) fits
    ]

-- As the code compares them, of one sign.
abbrev shown : ℤ → ℤ
shown x = to_z w64 (of_z w64 x)

pub above_from_zero : (x y : ℤ) → SFits w64 x → SFits w64 y → lt_z (shown x) (pos 0) ≡ false → le_z (pos 0) (shown y) ≡ true → lt_z (shown y) (shown x) ≡ is_above (integer x) (integer y)
above_from_zero (pos n) (pos m) f g a b = ap (λ (z : ℤ). lt_z z (shown (pos n))) (to_z-of_z g) ∙ ap (λ (z : ℤ). lt_z (pos m) z) (to_z-of_z f) ∙ head_above 0 n m (omega arith) (omega arith)
above_from_zero (pos n) (negsuc m) f g a b = absurd (both_ways false refl (ap (λ (z : ℤ). le_z (pos 0) z) (sym (to_z-of_z g)) ∙ b))
above_from_zero (negsuc n) y f g a b = absurd (both_ways true (ap (λ (z : ℤ). lt_z z (pos 0)) (sym (to_z-of_z f)) ∙ a) refl)

pub above_below_zero : (x y : ℤ) → SFits w64 x → SFits w64 y → lt_z (shown x) (pos 0) ≡ true → le_z (pos 0) (shown y) ≡ false → lt_z (shown x) (shown y) ≡ is_above (integer x) (integer y)
above_below_zero (negsuc n) (negsuc m) f g a b = ap (λ (z : ℤ). lt_z z (shown (negsuc m))) (to_z-of_z f) ∙ ap (λ (z : ℤ). lt_z (negsuc n) z) (to_z-of_z g) ∙ head_above 1 n m (omega arith) (omega arith)
above_below_zero (negsuc n) (pos m) f g a b = let lt : m < 0 = leb-false 0 m (ap (λ (z : ℤ). le_z (pos 0) z) (sym (to_z-of_z g)) ∙ b) in absurd (omega arith)
above_below_zero (pos n) y f g a b = let lt : n < 0 = ltb-true n 0 (ap (λ (z : ℤ). lt_z z (pos 0)) (sym (to_z-of_z f)) ∙ a) in absurd (omega arith)
