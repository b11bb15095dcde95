-- The digits of a number, one after another.
use Rattle.std.proofs.Common.{◌≡◌, ℕ, zero, suc, ◌+◌, ◌-◌, ◌*◌, ◌/◌, ◌%◌, ◌^◌, ◌<◌, ◌≤◌, inl, inr, Bool, true, false, cond, List, [], ◌∷◌, ◌++◌, length, take, Option, Some, None, refl, sym, ap, subst, ◌∙◌, arith, length-append}
use Rattle.std.proofs.lemmas.Bool.{and_parts, and_from, cases_lt, eqb-true, leb-true, le-leb, ltb-true, lt-ltb}
use Rattle.std.proofs.lemmas.Fmt.{decimal_digit, decimal_injective, decimal_nonempty, decimal_step}
use Rattle.std.proofs.lemmas.List.{append-nil, take-append-le, take_all}
use Rattle.std.proofs.Math.Seq.{take-append_seam}
use Rattle.std.specs.Fmt.{decimal}
use Rattle.std.specs.Option.{option_map}
use Rattle.std.specs.Prelude.{◌==◌, ◌&&◌, nat_le, nat_lt}
use Rattle.wire_base.specs.Spelling.{after_digits, digit_value, with_digit, with_value}
use Rattle.wire_base.specs.Texts.{Begins, DecimalOrFault, IsU32, Spells}
use Rattle.wire_base.proofs.TextFaults.{Steps, finds, one_of_two}

-- ---- what the digits gone over are

-- The digits of the number that was read, or none.
abbrev pub digits_of : Option ℕ → List ℕ
digits_of None = []
digits_of (Some number) = decimal number

abbrev pub IsRead : Option ℕ → Type 0
IsRead None = Unit {0}
IsRead (Some number) = IsU32 number

abbrev pub next_digit : Option ℕ → ℕ → Option (Option ℕ)
next_digit number character = option_map (λ longer. Some longer) (with_digit number character)

-- ---- one digit

value_from : (c d : ℕ) → d < 10 → c ≡ 48 + d → digit_value c ≡ Some d
value_from c d small is =
    let test : (nat_le 48 c && nat_le c 57) ≡ true = and_from _ _ (le-leb 48 c (omega (arith, is))) (le-leb c 57 (omega (arith, is, small))) in
    ap (λ (t : Bool). cond t (Some (c - 48)) None) test ∙ ap (λ (n : ℕ). Some n) (omega (arith, is))

value_is-step : (c d : ℕ) (test : Bool) → (nat_le 48 c && nat_le c 57) ≡ test → cond test (Some (c - 48)) None ≡ Some d → (d < 10) × (c ≡ 48 + d)
value_is-step c d true so e =
    let p = and_parts _ _ so in
    let low = leb-true 48 c p.0 in
    let high = leb-true c 57 p.1 in
    let same : c - 48 ≡ d = cc in
    (omega (arith, low, high, same), omega (arith, low, same))
value_is-step c d false so e = absurd cc

value_is : (c d : ℕ) → digit_value c ≡ Some d → (d < 10) × (c ≡ 48 + d)
value_is c d e = value_is-step c d (nat_le 48 c && nat_le c 57) refl e

-- ---- a digit after others

fits-step : (n d t : ℕ) (fits : Bool) → nat_lt (10 * n + d) (2 ^ 32) ≡ fits → cond fits (Some (10 * n + d)) None ≡ Some t → (t ≡ 10 * n + d) × (t < 2 ^ 32)
fits-step n d t true so e = let same : 10 * n + d ≡ t = cc in (sym same, subst (λ (k : ℕ). k < 2 ^ 32) same (ltb-true _ _ so))
fits-step n d t false so e = absurd cc

after-step : (n d t : ℕ) (none : Bool) → (n == 0) ≡ none → d < 10 → n < 2 ^ 32 → cond none None (cond (nat_lt (10 * n + d) (2 ^ 32)) (Some (10 * n + d)) None) ≡ Some t
    → (t ≡ 10 * n + d) × (t < 2 ^ 32) × (0 < n)
after-step n d t true so small is e = absurd cc
after-step zero d t false so small is e = absurd cc
after-step (suc n) d t false so small is e = let f = fits-step (suc n) d t (nat_lt (10 * suc n + d) (2 ^ 32)) refl e in (f.0, f.1, omega arith)

one_more : (number : Option ℕ) (c d t : ℕ) → IsRead number → d < 10 → c ≡ 48 + d → after_digits number d ≡ Some t → (t < 2 ^ 32) × (decimal t ≡ digits_of number ++ c ∷ [])
one_more None c d t is small at e =
    let same : d ≡ t = cc in
    (omega (arith, same, small), decimal_digit t (omega (arith, same, small)) ∙ ap (λ (k : ℕ). k ∷ []) (omega (arith, same, at)))
one_more (Some n) c d t is small at e =
    let a = after-step n d t (n == 0) refl small is e in
    let high : t / 10 ≡ n = omega (arith, a.0, small) in
    let low : 48 + t % 10 ≡ c = omega (arith, a.0, small, at) in
    (a.1, decimal_step t (omega (arith, a.0, a.2)) (omega (arith, a.1)) ∙ ap (λ (k : ℕ). decimal k ++ (48 + t % 10) ∷ []) high ∙ ap (λ (k : ℕ). decimal n ++ k ∷ []) low)

longer-step : (number : Option ℕ) (c t : ℕ) (digit : Option ℕ) → digit_value c ≡ digit → IsRead number → with_value number digit ≡ Some t → (t < 2 ^ 32) × (decimal t ≡ digits_of number ++ c ∷ [])
longer-step number c t None v is e = absurd cc
longer-step number c t (Some d) v is e = let w = value_is c d v in one_more number c d t is w.0 w.1 e

-- The number that is read with one more digit has the digits before it, and it.
longer : (number : Option ℕ) (c t : ℕ) → IsRead number → with_digit number c ≡ Some t → (t < 2 ^ 32) × (decimal t ≡ digits_of number ++ c ∷ [])
longer number c t is e = longer-step number c t (digit_value c) refl is e

-- ---- the beginning of a number

-- A number of more than one digit.
two_digits : (k : ℕ) → k < 2 ^ 32 → 1 < length (decimal k) → 10 ≤ k
two_digits k small more = elim (cases_lt k 10) [
  | inl lt ↦ let one : length (decimal k) ≡ 1 = ap (λ (o : List ℕ). length o) (decimal_digit k lt) in absurd (omega (arith, one, more))
  | inr le ↦ le
]

one_digit : (k : ℕ) → k < 2 ^ 32 → length (decimal k) ≡ 1 → k < 10
one_digit k small one = elim (cases_lt k 10) [
  | inl lt ↦ lt
  | inr le ↦
      let len : length (decimal k) ≡ length (decimal (k / 10)) + 1 = ap (λ (o : List ℕ). length o) (decimal_step k le (omega (arith, small))) ∙ length-append (decimal (k / 10)) ((48 + k % 10) ∷ []) in
      absurd (omega (arith, len, one, decimal_nonempty (k / 10) (omega (arith, small))))
]

-- Some first digits of a number are those of another one.
beginning : (fuel m count : ℕ) → m ≤ fuel → m < 2 ^ 32 → 0 < count → (k : ℕ) × (k ≤ m) × (decimal k ≡ take count (decimal m))
beginning zero m count enough small some = (m, omega arith, sym (take_all count (decimal m) (omega (arith, some, enough, len))))
  where
    len : length (decimal m) ≡ 1
    len = ap (λ (o : List ℕ). length o) (decimal_digit m (omega (arith, enough)))
beginning (suc fuel) m count enough small some = elim (cases_lt count (length (decimal m))) [
  | inr le ↦ (m, omega arith, sym (take_all count (decimal m) le))
  | inl lt ↦
      let large = two_digits m small (omega (arith, lt, some)) in
      let split = decimal_step m large (omega (arith, small)) in
      let len : length (decimal m) ≡ length (decimal (m / 10)) + 1 = ap (λ (o : List ℕ). length o) split ∙ length-append (decimal (m / 10)) ((48 + m % 10) ∷ []) in
      let b = beginning fuel (m / 10) count (omega (arith, enough, large)) (omega (arith, small)) some in
      (b.0, omega (arith, b.1), b.2 ∙ sym (ap (λ (o : List ℕ). take count o) split ∙ take-append-le count (decimal (m / 10)) ((48 + m % 10) ∷ []) (omega (arith, len, lt))))
]

-- ---- a digit that no number has there

push_same : (s t : List ℕ) (c d : ℕ) → s ++ c ∷ [] ≡ t ++ d ∷ [] → (s ≡ t) × (c ≡ d)
push_same [] [] c d e = (refl, cc)
push_same [] (y ∷ []) c d e = absurd cc
push_same [] (y ∷ z ∷ t) c d e = absurd cc
push_same (x ∷ []) [] c d e = absurd cc
push_same (x ∷ w ∷ s) [] c d e = absurd cc
push_same (x ∷ s) (y ∷ t) c d e =
    let head : x ≡ y = cc in
    let tail : s ++ c ∷ [] ≡ t ++ d ∷ [] = cc in
    let p = push_same s t c d tail in
    (let same = p.0 in cc, p.1)

after_from-step : (n d : ℕ) (none : Bool) → (n == 0) ≡ none → 0 < n → 10 * n + d < 2 ^ 32 → cond none None (cond (nat_lt (10 * n + d) (2 ^ 32)) (Some (10 * n + d)) None) ≡ Some (10 * n + d)
after_from-step n d true so some fits = absurd (omega (arith, some, eqb-true n 0 so))
after_from-step n d false so some fits = ap (λ (t : Bool). cond t (Some (10 * n + d)) None) (lt-ltb (10 * n + d) (2 ^ 32) fits)

after_from : (n d : ℕ) → 0 < n → 10 * n + d < 2 ^ 32 → after_digits (Some n) d ≡ Some (10 * n + d)
after_from n d some fits = after_from-step n d (n == 0) refl some fits

-- A number whose digits are those that were gone over and one more is read of them.
reads_longer : (number : Option ℕ) (c k : ℕ) → IsRead number → k < 2 ^ 32 → decimal k ≡ digits_of number ++ c ∷ [] → with_digit number c ≡ Some k
reads_longer None c k is small e =
    let lt : k < 10 = one_digit k small (ap (λ (o : List ℕ). length o) e) in
    let same : (48 + k) ∷ [] ≡ c ∷ [] = sym (decimal_digit k lt) ∙ e in
    let at : c ≡ 48 + k = cc in
    ap (λ (d : Option ℕ). with_value None d) (value_from c k lt at)
reads_longer (Some n) c k is small e =
    let len : length (decimal k) ≡ length (decimal n) + 1 = ap (λ (o : List ℕ). length o) e ∙ length-append (decimal n) (c ∷ []) in
    let large = two_digits k small (omega (arith, len, decimal_nonempty n (omega (arith, is)))) in
    let p = push_same (decimal (k / 10)) (decimal n) (48 + k % 10) c (sym (decimal_step k large (omega (arith, small))) ∙ e) in
    let high : k / 10 ≡ n = decimal_injective (k / 10) n (omega (arith, small)) (omega (arith, is)) p.0 in
    let all : 10 * n + k % 10 ≡ k = omega (arith, high) in
    ap (λ (d : Option ℕ). with_value (Some n) d) (value_from c (k % 10) (omega arith) (sym p.1))
    ∙ after_from n (k % 10) (omega (arith, high, large)) (omega (arith, all, small)) ∙ ap (λ (t : ℕ). Some t) all

no_longer : (number : Option ℕ) (c : ℕ) → IsRead number → with_digit number c ≡ None → Begins decimal IsU32 (digits_of number ++ c ∷ []) → ⊥
no_longer number c is e b =
    let gone : List ℕ = digits_of number ++ c ∷ [] in
    let len : length (digits_of number ++ c ∷ []) ≡ length (digits_of number) + 1 = length-append (digits_of number) (c ∷ []) in
    let f = beginning b.value b.value (length (digits_of number ++ c ∷ [])) (omega arith) b.so (omega (arith, len)) in
    let cut : take (length (digits_of number ++ c ∷ [])) (decimal b.value) ≡ digits_of number ++ c ∷ [] =
    ap (λ (o : List ℕ). take (length (digits_of number ++ c ∷ [])) o) b.split ∙ take-append_seam (digits_of number ++ c ∷ []) b.more in
    let read = reads_longer number c f.0 is (omega (arith, f.1, b.so)) (f.2 ∙ cut) in
    absurd cc

-- ---- the reader

begins : (number : Option ℕ) → IsRead number → Begins decimal IsU32 (digits_of number)
begins None is = record { value = 0; so = omega arith; more = decimal 0; split = refl }
begins (Some n) is = record { value = n; so = is; more = []; split = sym (append-nil (decimal n)) }

goes-step : (number next : Option ℕ) (c : ℕ) → IsRead number → (given : Option ℕ) → with_digit number c ≡ given → option_map (λ (t : ℕ). Some t) given ≡ Some next
    → IsRead next × (digits_of next ≡ digits_of number ++ c ∷ [])
goes-step number next c is None e f = absurd cc
goes-step number None c is (Some t) e f = let none : Some t ≡ None = cc in absurd cc
goes-step number (Some n) c is (Some t) e f =
    let inner : Some t ≡ Some n = cc in
    let same : t ≡ n = cc in
    longer number c n is (e ∙ inner)

stops-step : (number : Option ℕ) (c : ℕ) (given : Option ℕ) → with_digit number c ≡ given → option_map (λ (t : ℕ). Some t) given ≡ None → with_digit number c ≡ None
stops-step number c None e f = e
stops-step number c (Some t) e f = absurd cc

ends : (number : Option ℕ) (v : ℕ) → IsRead number → number ≡ Some v → Spells decimal IsU32 (digits_of number) v
ends None v is e = absurd cc
ends (Some n) v is e = let same : n ≡ v = cc in (subst IsU32 same is, ap (λ (k : ℕ). decimal k) (sym same))

unfinished : (number : Option ℕ) → number ≡ None → (v : ℕ) → Spells decimal IsU32 (digits_of number) v → ⊥
unfinished None e v s = absurd (omega (arith, decimal_nonempty v (omega (arith, s.0)), ap (λ (o : List ℕ). length o) s.1))
unfinished (Some n) e v s = absurd cc

pub steps : Steps decimal IsU32 digits_of IsRead next_digit (λ number. number)
steps = record {
  begins = begins;
  goes = λ s t c is e. goes-step s t c is (with_digit s c) refl e;
  stops = λ s c is e. no_longer s c is (stops-step s c (with_digit s c) refl e);
  ends = ends;
  unfinished = λ s is e. unfinished s e;
}

-- Each text is the digits of one number or has one first fault.
pub decimal_or_fault : DecimalOrFault
decimal_or_fault text = one_of_two (λ one other a b. decimal_injective one other (omega (arith, a)) (omega (arith, b))) text (finds steps None tt refl text)
