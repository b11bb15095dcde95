-- The text of octets, one character after another.
use Rattle.std.proofs.Common.{◌≡◌, ℕ, zero, suc, ◌+◌, ◌*◌, ◌/◌, ◌%◌, ◌<◌, ◌⊎◌, inl, inr, Bool, true, false, cond, List, [], ◌∷◌, ◌++◌, length, get_or, Option, Some, None, refl, sym, ap, subst, ◌∙◌, append_assoc, arith}
use Rattle.std.proofs.lemmas.Bool.{and_parts, and_cases, eqb-true, eqb-false}
use Rattle.std.proofs.lemmas.Grind.{flat_map-append}
use Rattle.std.proofs.lemmas.List.{append-nil, nil_from_length}
use Rattle.std.specs.Prelude.{◌==◌, ◌&&◌}
use Rattle.wire_base.specs.Escaped.{escaped, escaped_octet, hex_digit, hex_octet, is_plain}
use Rattle.wire_base.specs.Layout.{AreOctets}
use Rattle.wire_base.specs.Spelling.{after_high, after_low, character_after, has_escapes, hex_value, is_end, octets_after, part_after, part_text}
use Rattle.wire_base.specs.Texts.{Begins, EscapedOrFault, Spells}
use Rattle.wire_base.specs.declared.values.unescape.Next.{Next}
use Rattle.wire_base.specs.declared.values.unescape.Next.TheVariants as next
use Rattle.wire_base.specs.declared.values.unescape.Part.{Part}
use Rattle.wire_base.specs.declared.values.unescape.Part.TheVariants as part
use Rattle.wire_base.proofs.TextFaults.{Steps, finds, one_of_two}
use Rattle.wire_base.proofs.Escapes.{digit_same, value_is, value_from, printed, not_slash, plain_small, flat, not_empty, split_off, no_octets, goes_with, is_so, not_both, row_plain, rows_from, HasEscape, escape_from}

-- ---- one character

-- The part is one that the octets and some more octet begin with.
abbrev Awaits : List ℕ → Part → Type 0
Awaits octets (part.Digit high) = HasEscape high
Awaits octets part.NoOctets = octets ≡ []
Awaits octets other = Unit {0}

abbrev StepIs : List ℕ → Part → ℕ → Next → Type 0
StepIs octets before c (next.Part longer) = Awaits octets longer × (part_text longer ≡ part_text before ++ c ∷ [])
StepIs octets before c (next.Octet x) = (x < 256) × (escaped_octet x ≡ part_text before ++ c ∷ [])
StepIs octets before c next.Fault = Begins escaped AreOctets ((flat octets ++ part_text before) ++ c ∷ []) → ⊥

-- The text of an octet begins with a backslash by an escape alone.
escape_only : (x : ℕ) (s t : List ℕ) → escaped_octet x ++ s ≡ 92 ∷ t → (is_plain x ≡ false) × (hex_octet x ++ s ≡ 92 ∷ t)
escape_only x s t e = elim (printed x) [
  | inl a ↦
      let joined : x ∷ s ≡ 92 ∷ t = sym (ap (λ (o : List ℕ). o ++ s) a.1) ∙ e in
      let head : x ≡ 92 = cc in
      absurd (not_slash x a.0 head)
  | inr a ↦ (a.0, sym (ap (λ (o : List ℕ). o ++ s) a.1) ∙ e)
]

nothing-none : (octets : List ℕ) (c : ℕ) → is_plain c ≡ false → (c ≡ 92 → ⊥) → Begins escaped AreOctets ((flat octets ++ []) ++ c ∷ []) → ⊥
nothing-none octets c plain slash b = elim (goes_with octets [] c b) [
  | inl g ↦ let joined : 92 ∷ 101 ∷ [] ≡ c ∷ g.1 = g.2 in let head : c ≡ 92 = cc in slash head
  | inr g ↦ elim (printed g.0) [
    | inl a ↦
        let joined : g.0 ∷ flat g.1 ≡ c ∷ g.2 = sym (ap (λ (o : List ℕ). o ++ flat g.1) a.1) ∙ g.4 in
        let head : g.0 ≡ c = cc in
        not_both a.0 (ap is_plain head ∙ plain)
    | inr a ↦
        let joined : hex_octet g.0 ++ flat g.1 ≡ c ∷ g.2 = sym (ap (λ (o : List ℕ). o ++ flat g.1) a.1) ∙ g.4 in
        let head : c ≡ 92 = cc in
        slash head
  ]
]

nothing_is : (octets : List ℕ) (c : ℕ) (plain slash : Bool) → is_plain c ≡ plain → (c == 92) ≡ slash
    → StepIs octets part.Nothing c (cond plain (next.Octet c) (cond slash (next.Part part.Backslash) next.Fault))
nothing_is octets c true slash p s = (plain_small c p, ap (λ (b : Bool). cond b (c ∷ []) (hex_octet c)) p)
nothing_is octets c false true p s = (tt, ap (λ (k : ℕ). k ∷ []) (sym (eqb-true c 92 s)))
nothing_is octets c false false p s = nothing-none octets c p (eqb-false c 92 s)

backslash-none : (octets : List ℕ) (c : ℕ) → (c ≡ 120 → ⊥) → (c ≡ 101 → octets ≡ [] → ⊥) → Begins escaped AreOctets ((flat octets ++ 92 ∷ []) ++ c ∷ []) → ⊥
backslash-none octets c x e b = elim (goes_with octets (92 ∷ []) c b) [
  | inl g ↦ let joined : 92 ∷ 101 ∷ [] ≡ 92 ∷ c ∷ g.1 = g.2 in let second : c ≡ 101 = cc in e second g.0
  | inr g ↦
      let only = escape_only g.0 (flat g.1) (c ∷ g.2) g.4 in
      let joined : hex_octet g.0 ++ flat g.1 ≡ 92 ∷ c ∷ g.2 = only.1 in
      let second : c ≡ 120 = cc in
      x second
]

empty_from : (octets : List ℕ) → (length octets == 0) ≡ true → octets ≡ []
empty_from octets e = nil_from_length octets (eqb-true (length octets) 0 e)

backslash_is : (octets : List ℕ) (c : ℕ) (x e : Bool) → (c == 120) ≡ x → (c == 101 && length octets == 0) ≡ e
    → StepIs octets part.Backslash c (cond x (next.Part part.Hexadecimal) (cond e (next.Part part.NoOctets) next.Fault))
backslash_is octets c true e p q = (tt, ap (λ (k : ℕ). 92 ∷ k ∷ []) (sym (eqb-true c 120 p)))
backslash_is octets c false true p q =
    let parts = and_parts (c == 101) (length octets == 0) q in
    (empty_from octets parts.1, ap (λ (k : ℕ). 92 ∷ k ∷ []) (sym (eqb-true c 101 parts.0)))
backslash_is octets c false false p q = backslash-none octets c (eqb-false c 120 p) (λ same none. elim (and_cases (c == 101) (length octets == 0) q) [
  | inl differ ↦ eqb-false c 101 differ same
  | inr some ↦ eqb-false (length octets) 0 some (ap (λ (o : List ℕ). length o) none)
])

-- After a backslash and an `x`, the first digit of an octet that is not printed as itself.
hexadecimal-goes : (octets : List ℕ) (c : ℕ) → Begins escaped AreOctets ((flat octets ++ 92 ∷ 120 ∷ []) ++ c ∷ []) → (high : ℕ) × HasEscape high × (hex_value c ≡ Some high)
hexadecimal-goes octets c b = elim (goes_with octets (92 ∷ 120 ∷ []) c b) [
  | inl g ↦ let joined : 92 ∷ 101 ∷ [] ≡ 92 ∷ 120 ∷ c ∷ g.1 = g.2 in absurd cc
  | inr g ↦
      let only = escape_only g.0 (flat g.1) (120 ∷ c ∷ g.2) g.4 in
      let joined : hex_octet g.0 ++ flat g.1 ≡ 92 ∷ 120 ∷ c ∷ g.2 = only.1 in
      let third : c ≡ hex_digit (g.0 / 16) = cc in
      (g.0 / 16, (g.0, g.3, only.0, refl), ap hex_value third ∙ value_from (g.0 / 16) (omega (arith, g.3)))
]

high_is : (octets : List ℕ) (c high : ℕ) (escapes : Bool) → has_escapes high ≡ escapes → hex_value c ≡ Some high → StepIs octets part.Hexadecimal c (cond escapes (next.Part (part.Digit high)) next.Fault)
high_is octets c high true e v = let is = value_is c high v in (escape_from high is.0 e, ap (λ (k : ℕ). 92 ∷ 120 ∷ k ∷ []) is.1)
high_is octets c high false e v = λ b.
    let g = hexadecimal-goes octets c b in
    let same : Some g.0 ≡ Some high = sym g.2 ∙ v in
    let inner : g.0 ≡ high = cc in
    let row : g.1.0 / 16 ≡ high = g.1.3 ∙ inner in
    not_both (row_plain g.1.0 (subst (λ (k : ℕ). ((k ≡ 3) ⊎ (k ≡ 4)) ⊎ (k ≡ 6)) (sym row) (rows_from high e))) g.1.2

hexadecimal_is : (octets : List ℕ) (c : ℕ) (value : Option ℕ) → hex_value c ≡ value → StepIs octets part.Hexadecimal c (after_high value)
hexadecimal_is octets c None v = λ b. let g = hexadecimal-goes octets c b in let both : Some g.0 ≡ None = sym g.2 ∙ v in absurd cc
hexadecimal_is octets c (Some high) v = high_is octets c high (has_escapes high) refl v

-- After the first digit, the second one of an octet that is not printed as itself.
digit-goes : (octets : List ℕ) (high c : ℕ) → Begins escaped AreOctets ((flat octets ++ 92 ∷ 120 ∷ hex_digit high ∷ []) ++ c ∷ []) → (low : ℕ) × (is_plain (16 * high + low) ≡ false) × (hex_value c ≡ Some low)
digit-goes octets high c b = elim (goes_with octets (92 ∷ 120 ∷ hex_digit high ∷ []) c b) [
  | inl g ↦ let joined : 92 ∷ 101 ∷ [] ≡ 92 ∷ 120 ∷ hex_digit high ∷ c ∷ g.1 = g.2 in absurd cc
  | inr g ↦
      let only = escape_only g.0 (flat g.1) (120 ∷ hex_digit high ∷ c ∷ g.2) g.4 in
      let joined : hex_octet g.0 ++ flat g.1 ≡ 92 ∷ 120 ∷ hex_digit high ∷ c ∷ g.2 = only.1 in
      let third : hex_digit (g.0 / 16) ≡ hex_digit high = cc in
      let fourth : c ≡ hex_digit (g.0 % 16) = cc in
      let row = digit_same (g.0 / 16) high third in
      let all : 16 * high + g.0 % 16 ≡ g.0 = omega (arith, row) in
      (g.0 % 16, ap is_plain all ∙ only.0, ap hex_value fourth ∙ value_from (g.0 % 16) (omega arith))
]

low_is : (octets : List ℕ) (high c low : ℕ) (plain : Bool) → HasEscape high → is_plain (16 * high + low) ≡ plain → hex_value c ≡ Some low
    → StepIs octets (part.Digit high) c (cond plain next.Fault (next.Octet (16 * high + low)))
low_is octets high c low true escape p v = λ b.
    let g = digit-goes octets high c b in
    let same : Some g.0 ≡ Some low = sym g.2 ∙ v in
    let inner : g.0 ≡ low = cc in
    not_both p (ap (λ (k : ℕ). is_plain (16 * high + k)) (sym inner) ∙ g.1)
low_is octets high c low false escape p v =
    let is = value_is c low v in
    let first : (16 * high + low) / 16 ≡ high = omega (arith, is.0) in
    let second : (16 * high + low) % 16 ≡ low = omega (arith, is.0) in (
      omega (arith, escape.1, escape.3, is.0),
      ap (λ (b : Bool). cond b ((16 * high + low) ∷ []) (hex_octet (16 * high + low))) p
          ∙ ap (λ (k : ℕ). 92 ∷ 120 ∷ hex_digit k ∷ hex_digit ((16 * high + low) % 16) ∷ []) first ∙ ap (λ (k : ℕ). 92 ∷ 120 ∷ hex_digit high ∷ hex_digit k ∷ []) second
          ∙ ap (λ (k : ℕ). 92 ∷ 120 ∷ hex_digit high ∷ k ∷ []) is.1,
    )

digit_part_is : (octets : List ℕ) (high c : ℕ) (value : Option ℕ) → HasEscape high → hex_value c ≡ value → StepIs octets (part.Digit high) c (after_low high value)
digit_part_is octets high c None escape v = λ b. let g = digit-goes octets high c b in let both : Some g.0 ≡ None = sym g.2 ∙ v in absurd cc
digit_part_is octets high c (Some low) escape v = low_is octets high c low (is_plain (16 * high + low)) escape refl v

no_octets-none : (octets : List ℕ) (c : ℕ) → Begins escaped AreOctets ((flat octets ++ 92 ∷ 101 ∷ []) ++ c ∷ []) → ⊥
no_octets-none octets c b = elim (goes_with octets (92 ∷ 101 ∷ []) c b) [
  | inl g ↦ let joined : 92 ∷ 101 ∷ [] ≡ 92 ∷ 101 ∷ c ∷ g.1 = g.2 in absurd cc
  | inr g ↦
      let only = escape_only g.0 (flat g.1) (101 ∷ c ∷ g.2) g.4 in
      let joined : hex_octet g.0 ++ flat g.1 ≡ 92 ∷ 101 ∷ c ∷ g.2 = only.1 in
      absurd (omega (arith, ap (λ (o : List ℕ). get_or o 1 0) joined))
]

-- What a part and one more character are.
step_is : (octets : List ℕ) (before : Part) (c : ℕ) → Awaits octets before → StepIs octets before c (part_after before (length octets == 0) c)
step_is octets part.Nothing c is = nothing_is octets c (is_plain c) (c == 92) refl refl
step_is octets part.Backslash c is = backslash_is octets c (c == 120) (c == 101 && length octets == 0) refl refl
step_is octets part.Hexadecimal c is = hexadecimal_is octets c (hex_value c) refl
step_is octets (part.Digit high) c is = digit_part_is octets high c (hex_value c) is refl
step_is octets part.NoOctets c is = no_octets-none octets c

-- ---- the reader

-- What was gone over: the text of the octets, and a part.
abbrev pub gone_over : List ℕ × Part → List ℕ
gone_over s = flat s.0 ++ part_text s.1

abbrev pub IsSoFar : List ℕ × Part → Type 0
IsSoFar s = AreOctets s.0 × Awaits s.0 s.1

-- The octets, where a text may end so.
abbrev pub whole_octets : List ℕ × Part → Option (List ℕ)
whole_octets s = cond (is_end s.1 (length s.0 == 0)) (Some s.0) None

are_with : (octets : List ℕ) (x : ℕ) → AreOctets octets → x < 256 → AreOctets (octets ++ x ∷ [])
are_with [] x are small zero = small
are_with [] x are small (suc i) = omega arith
are_with (o ∷ octets) x are small zero = are 0
are_with (o ∷ octets) x are small (suc i) = are_with octets x (λ j. are (suc j)) small i

some_octets : (octets : List ℕ) (x : ℕ) → escaped (octets ++ x ∷ []) ≡ flat octets ++ escaped_octet x
some_octets [] x = append-nil (escaped_octet x)
some_octets (o ∷ octets) x = flat_map-append escaped_octet (o ∷ octets) (x ∷ []) ∙ ap (λ (t : List ℕ). flat (o ∷ octets) ++ t) (append-nil (escaped_octet x))

begins_with : (octets text more : List ℕ) (x : ℕ) → AreOctets octets → x < 256 → is_plain x ≡ false → hex_octet x ≡ text ++ more → Begins escaped AreOctets (flat octets ++ text)
begins_with octets text more x are small plain e = record {
  value = octets ++ x ∷ [];
  so = are_with octets x are small;
  more = more;
  split = some_octets octets x ∙ ap (λ (b : Bool). flat octets ++ cond b (x ∷ []) (hex_octet x)) plain ∙ ap (λ (t : List ℕ). flat octets ++ t) e ∙ sym (append_assoc (flat octets) text more);
}

begins : (octets : List ℕ) (before : Part) → AreOctets octets → Awaits octets before → Begins escaped AreOctets (flat octets ++ part_text before)
begins octets part.Nothing are is = begins_with octets [] (92 ∷ 120 ∷ 48 ∷ 48 ∷ []) 0 are (omega arith) refl refl
begins octets part.Backslash are is = begins_with octets (92 ∷ []) (120 ∷ 48 ∷ 48 ∷ []) 0 are (omega arith) refl refl
begins octets part.Hexadecimal are is = begins_with octets (92 ∷ 120 ∷ []) (48 ∷ 48 ∷ []) 0 are (omega arith) refl refl
begins octets (part.Digit high) are is =
    begins_with octets (92 ∷ 120 ∷ hex_digit high ∷ []) (hex_digit (is.0 % 16) ∷ []) is.0 are is.1 is.2 (ap (λ (k : ℕ). 92 ∷ 120 ∷ hex_digit k ∷ hex_digit (is.0 % 16) ∷ []) is.3)
begins octets part.NoOctets are is = record { value = []; so = λ i. omega arith; more = []; split = ap (λ (o : List ℕ). (flat o ++ 92 ∷ 101 ∷ []) ++ []) (sym is) }

goes-step : (octets : List ℕ) (before : Part) (c : ℕ) (n : Next) (t : List ℕ × Part) → AreOctets octets → StepIs octets before c n → octets_after octets n ≡ Some t
    → IsSoFar t × (gone_over t ≡ (flat octets ++ part_text before) ++ c ∷ [])
goes-step octets before c (next.Part longer) t are is e =
    let same : (octets, longer) ≡ t = cc in
    subst (λ (u : List ℕ × Part). IsSoFar u × (gone_over u ≡ (flat octets ++ part_text before) ++ c ∷ [])) same
    ((are, is.0), ap (λ (o : List ℕ). flat octets ++ o) is.1 ∙ sym (append_assoc (flat octets) (part_text before) (c ∷ [])))
goes-step octets before c (next.Octet x) t are is e =
    let same : (octets ++ x ∷ [], part.Nothing) ≡ t = cc in
    subst (λ (u : List ℕ × Part). IsSoFar u × (gone_over u ≡ (flat octets ++ part_text before) ++ c ∷ [])) same (
      (are_with octets x are is.0, tt),
      append-nil (flat (octets ++ x ∷ [])) ∙ flat_map-append escaped_octet octets (x ∷ []) ∙ ap (λ (o : List ℕ). flat octets ++ o) (append-nil (escaped_octet x) ∙ is.1)
          ∙ sym (append_assoc (flat octets) (part_text before) (c ∷ [])),
    )
goes-step octets before c next.Fault t are is e = absurd cc

stops-step : (octets : List ℕ) (before : Part) (c : ℕ) (n : Next) → StepIs octets before c n → octets_after octets n ≡ None → Begins escaped AreOctets ((flat octets ++ part_text before) ++ c ∷ []) → ⊥
stops-step octets before c (next.Part longer) is e = absurd cc
stops-step octets before c (next.Octet x) is e = absurd cc
stops-step octets before c next.Fault is e = is

ends-part : (octets : List ℕ) (before : Part) → Awaits octets before → is_end before (length octets == 0) ≡ true → escaped octets ≡ flat octets ++ part_text before
ends-part [] part.Nothing is e = absurd cc
ends-part (o ∷ octets) part.Nothing is e = sym (append-nil (flat (o ∷ octets)))
ends-part octets part.Backslash is e = absurd cc
ends-part octets part.Hexadecimal is e = absurd cc
ends-part octets (part.Digit high) is e = absurd cc
ends-part octets part.NoOctets is e = ap escaped is ∙ ap (λ (o : List ℕ). flat o ++ 92 ∷ 101 ∷ []) (sym is)

ends-step : (octets v : List ℕ) (before : Part) (end : Bool) → is_end before (length octets == 0) ≡ end → AreOctets octets → Awaits octets before → cond end (Some octets) None ≡ Some v
    → Spells escaped AreOctets (flat octets ++ part_text before) v
ends-step octets v before true end are is e = let same : octets ≡ v = cc in subst (λ (o : List ℕ). Spells escaped AreOctets (flat octets ++ part_text before) o) same (are, ends-part octets before is end)
ends-step octets v before false end are is e = absurd cc

-- No octet has a part of a text as its text.
no_part : (x : ℕ) (s : List ℕ) (before : Part) → escaped_octet x ++ s ≡ part_text before → ⊥
no_part x s part.Nothing e = not_empty x s e
no_part x s part.Backslash e = let joined : hex_octet x ++ s ≡ 92 ∷ [] = (escape_only x s [] e).1 in absurd cc
no_part x s part.Hexadecimal e = let joined : hex_octet x ++ s ≡ 92 ∷ 120 ∷ [] = (escape_only x s (120 ∷ []) e).1 in absurd cc
no_part x s (part.Digit high) e = let joined : hex_octet x ++ s ≡ 92 ∷ 120 ∷ hex_digit high ∷ [] = (escape_only x s (120 ∷ hex_digit high ∷ []) e).1 in absurd cc
no_part x s part.NoOctets e = let joined : hex_octet x ++ s ≡ 92 ∷ 101 ∷ [] = (escape_only x s (101 ∷ []) e).1 in absurd cc

no_others : (others : List ℕ) (before : Part) → flat others ≡ part_text before → (others ≡ []) × (part_text before ≡ [])
no_others [] before e = (refl, sym e)
no_others (x ∷ others) before e = absurd (no_part x (flat others) before e)

unfinished-some : (octets v : List ℕ) (x : ℕ) (before : Part) → is_end before (length octets == 0) ≡ false → x ∷ v ≡ octets → part_text before ≡ [] → ⊥
unfinished-some [] v x before end e none = absurd cc
unfinished-some (o ∷ octets) v x part.Nothing end e none = absurd (omega (arith, eqb-true (length (o ∷ octets)) 0 (is_so (length (o ∷ octets) == 0) end)))
unfinished-some octets v x part.Backslash end e none = absurd cc
unfinished-some octets v x part.Hexadecimal end e none = absurd cc
unfinished-some octets v x (part.Digit high) end e none = absurd cc
unfinished-some octets v x part.NoOctets end e none = absurd cc

unfinished-none : (before : Part) (first : Bool) → is_end before first ≡ false → 92 ∷ 101 ∷ [] ≡ part_text before → ⊥
unfinished-none part.Nothing first end e = absurd cc
unfinished-none part.Backslash first end e = absurd cc
unfinished-none part.Hexadecimal first end e = absurd (omega (arith, ap (λ (o : List ℕ). get_or o 1 0) e))
unfinished-none (part.Digit high) first end e = absurd (omega (arith, ap (λ (o : List ℕ). get_or o 1 0) e))
unfinished-none part.NoOctets first end e = absurd cc

unfinished-part : (octets v : List ℕ) (before : Part) → is_end before (length octets == 0) ≡ false → escaped v ≡ flat octets ++ part_text before → ⊥
unfinished-part octets [] before end e =
    let none = no_octets octets (part_text before) e in
    unfinished-none before (length octets == 0) end (e ∙ ap (λ (o : List ℕ). flat o ++ part_text before) none)
unfinished-part octets (x ∷ v) before end e =
    let s = split_off octets (x ∷ v) (part_text before) e in
    let n = no_others s.0 before s.2 in
    unfinished-some octets v x before end (s.1 ∙ ap (λ (o : List ℕ). octets ++ o) n.0 ∙ append-nil octets) n.1

unfinished-step : (octets : List ℕ) (before : Part) (end : Bool) → is_end before (length octets == 0) ≡ end → cond end (Some octets) None ≡ None → (v : List ℕ) → Spells escaped AreOctets (flat octets ++ part_text before) v → ⊥
unfinished-step octets before true end e v s = absurd cc
unfinished-step octets before false end e v s = unfinished-part octets v before end s.1

pub steps : Steps escaped AreOctets gone_over IsSoFar character_after whole_octets
steps = record {
  begins = λ s is. begins s.0 s.1 is.0 is.1;
  goes = λ s t c is e. goes-step s.0 s.1 c (part_after s.1 (length s.0 == 0) c) t is.0 (step_is s.0 s.1 c is.1) e;
  stops = λ s c is e. stops-step s.0 s.1 c (part_after s.1 (length s.0 == 0) c) (step_is s.0 s.1 c is.1) e;
  ends = λ s v is e. ends-step s.0 v s.1 (is_end s.1 (length s.0 == 0)) refl is.0 is.1 e;
  unfinished = λ s is e. unfinished-step s.0 s.1 (is_end s.1 (length s.0 == 0)) refl e;
}

-- ---- each text

no_others-none : (others : List ℕ) → flat others ≡ [] → others ≡ []
no_others-none [] e = refl
no_others-none (x ∷ others) e = absurd (not_empty x (flat others) e)

-- Octets with the same text are the same.
escaped_same : (one other : List ℕ) → escaped one ≡ escaped other → one ≡ other
escaped_same [] other e = sym (no_octets-same other e)
  where
    no_octets-same : (octets : List ℕ) → 92 ∷ 101 ∷ [] ≡ escaped octets → octets ≡ []
    no_octets-same [] e = refl
    no_octets-same (o ∷ octets) e = no_octets (o ∷ octets) [] (e ∙ sym (append-nil (flat (o ∷ octets))))
escaped_same (x ∷ one) [] e = no_octets (x ∷ one) [] (sym e ∙ sym (append-nil (flat (x ∷ one))))
escaped_same (x ∷ one) (y ∷ other) e =
    let s = split_off (y ∷ other) (x ∷ one) [] (e ∙ sym (append-nil (flat (y ∷ other)))) in
    s.1 ∙ ap (λ (o : List ℕ). (y ∷ other) ++ o) (no_others-none s.0 s.2) ∙ append-nil (y ∷ other)

-- Each text is that of octets or has one first fault.
pub escaped_or_fault : EscapedOrFault
escaped_or_fault text = one_of_two (λ one other a b e. escaped_same one other e) text (finds steps ([], part.Nothing) ((λ i. omega arith), tt) refl text)
