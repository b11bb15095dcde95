-- Keys that are unsigned integers below 256 stand after smaller ones alone, in the order of
-- canonical spellings.
use Rattle.std.proofs.Common.{◌≡◌, ℕ, ◌+◌, ◌*◌, ◌%◌, ◌^◌, ◌<◌, ◌≤◌, List, [], ◌∷◌, pos, nat_lt, refl, sym, ap, ◌∙◌, arith}
use Rattle.std.specs.Ordering.{nat_cmp, ordering_then}
use Rattle.std.specs.declared.cmp.Ordering.{Ordering}
use Rattle.std.specs.declared.cmp.Ordering.TheVariants.{Less, Equal, Greater}
use Rattle.std.specs.Cmp.Lexicographic.{slice_cmp}
use Rattle.std.proofs.lemmas.Bool.{cond_both, ltb-true, ltb-false}
use Rattle.std.proofs.lemmas.Cmp.{ranked}
use Rattle.wire_base.specs.Numbers.{octets_of}
use Rattle.cbor_det.specs.Term.{integer}
use Rattle.cbor_det.specs.Canonical.{Form, direct, one, two, four, eight, head, shortest, canon}

equal_less : Equal ≡ Less → ⊥
equal_less e = cc

greater_less : Greater ≡ Less → ⊥
greater_less e = cc

-- the first octets of lists in order
first_le : (o : Ordering) (x y : ℕ) (rest : Ordering) → o ≡ nat_cmp x y → ordering_then o rest ≡ Less → x ≤ y
first_le Less x y rest is less = let lt : x < y = ranked x y Less is in omega (arith, lt)
first_le Equal x y rest is less = let e : x ≡ y = ranked x y Equal is in omega (arith, e)
first_le Greater x y rest is less = absurd (greater_less less)

single_lt : (o : Ordering) (x y : ℕ) → o ≡ nat_cmp x y → ordering_then o Equal ≡ Less → x < y
single_lt Less x y is less = ranked x y Less is
single_lt Equal x y is less = absurd (equal_less less)
single_lt Greater x y is less = absurd (greater_less less)

-- What a number is that has this form as its shortest.
abbrev HasForm : Form → ℕ → Type 0
HasForm direct n = n < 24
HasForm one n = (24 ≤ n) × (n < 256)
HasForm form n = 256 ≤ n

has_form : (n : ℕ) → HasForm (shortest n) n
has_form n =
    cond_both (nat_lt n 24) _ _ (λ (form : Form). HasForm form n) (λ e. ltb-true n 24 e) (λ e0.
    cond_both (nat_lt n (2 ^ 8)) _ _ (λ (form : Form). HasForm form n) (λ e. (ltb-false n 24 e0, ltb-true n (2 ^ 8) e)) (λ e1.
    cond_both (nat_lt n (2 ^ 16)) _ _ (λ (form : Form). HasForm form n) (λ e. ltb-false n (2 ^ 8) e1) (λ e2.
    cond_both (nat_lt n (2 ^ 32)) _ _ (λ (form : Form). HasForm form n) (λ e. ltb-false n (2 ^ 8) e1) (λ e3. ltb-false n (2 ^ 8) e1))))

one_octet : (n : ℕ) → octets_of 1 n ≡ n % 256 ∷ []
unfolding octets_of
one_octet n = refl

one_one : (n k : ℕ) → n < 256 → k < 256 → slice_cmp nat_cmp (octets_of 1 n) (octets_of 1 k) ≡ Less → n < k
one_one n k small less_than less =
    let e : slice_cmp nat_cmp (n % 256 ∷ []) (k % 256 ∷ []) ≡ Less =
    sym (ap (λ (o : List ℕ). slice_cmp nat_cmp o (k % 256 ∷ [])) (one_octet n)) ∙ sym (ap (λ (o : List ℕ). slice_cmp nat_cmp (octets_of 1 n) o) (one_octet k)) ∙ less in
    let lt : n % 256 < k % 256 = single_lt (nat_cmp (n % 256) (k % 256)) (n % 256) (k % 256) refl e in
    omega (arith, lt, small, less_than)

in_order : (f g : Form) (n k : ℕ) → HasForm f n → HasForm g k → k < 256 → slice_cmp nat_cmp (head f 0 n) (head g 0 k) ≡ Less → n < k
in_order direct direct n k has held small less = let lt : 32 * 0 + n < 32 * 0 + k = single_lt (nat_cmp (32 * 0 + n) (32 * 0 + k)) (32 * 0 + n) (32 * 0 + k) refl less in omega (arith, lt)
in_order direct one n k has held small less = let h : n < 24 = has in let l : 24 ≤ k = held.0 in omega (arith, h, l)
in_order one direct n k has held small less =
    let le : 24 ≤ 32 * 0 + k = first_le (nat_cmp 24 (32 * 0 + k)) 24 (32 * 0 + k) (slice_cmp nat_cmp (octets_of 1 n) []) refl less in let h : k < 24 = held in omega (arith, le, h)
in_order two direct n k has held small less =
    let le : 25 ≤ 32 * 0 + k = first_le (nat_cmp 25 (32 * 0 + k)) 25 (32 * 0 + k) (slice_cmp nat_cmp (octets_of 2 n) []) refl less in let h : k < 24 = held in omega (arith, le, h)
in_order four direct n k has held small less =
    let le : 26 ≤ 32 * 0 + k = first_le (nat_cmp 26 (32 * 0 + k)) 26 (32 * 0 + k) (slice_cmp nat_cmp (octets_of 4 n) []) refl less in let h : k < 24 = held in omega (arith, le, h)
in_order eight direct n k has held small less =
    let le : 27 ≤ 32 * 0 + k = first_le (nat_cmp 27 (32 * 0 + k)) 27 (32 * 0 + k) (slice_cmp nat_cmp (octets_of 8 n) []) refl less in let h : k < 24 = held in omega (arith, le, h)
in_order one one n k has held small less = one_one n k has.1 held.1 less
in_order f two n k has held small less = let h : 256 ≤ k = held in absurd (omega (arith, h, small))
in_order f four n k has held small less = let h : 256 ≤ k = held in absurd (omega (arith, h, small))
in_order f eight n k has held small less = let h : 256 ≤ k = held in absurd (omega (arith, h, small))
in_order f g n k has held small less = absurd (greater_less less)

pub numbers_in_order : (n k : ℕ) → k < 256 → slice_cmp nat_cmp (canon (integer (pos n))) (canon (integer (pos k))) ≡ Less → n < k
numbers_in_order n k small less = in_order (shortest n) (shortest k) n k (has_form n) (has_form k) small less
