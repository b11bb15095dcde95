-- Digits, escapes, and the octets whose text goes on so.
use Rattle.std.proofs.Common.{◌≡◌, ℕ, ◌+◌, ◌-◌, ◌*◌, ◌/◌, ◌%◌, ◌<◌, ◌≤◌, ◌⊎◌, inl, inr, Bool, true, false, cond, List, [], ◌∷◌, ◌++◌, Some, None, refl, sym, ap, ◌∙◌, append_assoc, arith}
use Rattle.std.proofs.lemmas.Bool.{and_parts, and_cases, and_from, and_left, and_right, cases_lt, false_from_ne_true, not_from_false, eqb-true, eqb-false, leb-true, le-leb, lt-leb, lt-ltb, le-ltb}
use Rattle.std.specs.List.{flat_map}
use Rattle.std.specs.Prelude.{◌==◌, ◌&&◌, nat_le, not}
use Rattle.wire_base.specs.Escaped.{escaped, escaped_octet, hex_digit, hex_octet, is_plain}
use Rattle.wire_base.specs.Layout.{AreOctets}
use Rattle.wire_base.specs.Spelling.{has_escapes, hex_value}
use Rattle.wire_base.specs.Texts.{Begins}
use Rattle.wire_base.proofs.Spelled.{AreOctets-rest}

-- ---- a digit

pub digit_low : (n : ℕ) → n < 10 → hex_digit n ≡ 48 + n
digit_low n lt = ap (λ (b : Bool). cond b (48 + n) (87 + n)) (lt-ltb n 10 lt)

pub digit_high : (n : ℕ) → 10 ≤ n → hex_digit n ≡ 87 + n
digit_high n le = ap (λ (b : Bool). cond b (48 + n) (87 + n)) (le-ltb n 10 le)

-- Digits below 10 are characters below 58, and the others are characters from 97 on.
pub digit_is : (n : ℕ) → ((n < 10) × (hex_digit n ≡ 48 + n)) ⊎ ((10 ≤ n) × (hex_digit n ≡ 87 + n))
digit_is n = elim (cases_lt n 10) [ inl lt ↦ inl (lt, digit_low n lt) | inr le ↦ inr (le, digit_high n le) ]

pub digit_same : (m n : ℕ) → hex_digit m ≡ hex_digit n → m ≡ n
digit_same m n e = elim (digit_is m) [
  | inl a ↦ elim (digit_is n) [ inl b ↦ omega (arith, a.1, b.1, e) | inr b ↦ absurd (omega (arith, a.0, a.1, b.0, b.1, e)) ]
  | inr a ↦ elim (digit_is n) [ inl b ↦ absurd (omega (arith, a.0, a.1, b.0, b.1, e)) | inr b ↦ omega (arith, a.1, b.1, e) ]
]

value_is-letter : (c n : ℕ) (test : Bool) → (nat_le 97 c && nat_le c 102) ≡ test → cond test (Some (c - 87)) None ≡ Some n → (n < 16) × (hex_digit n ≡ c)
value_is-letter c n true so e =
    let p = and_parts _ _ so in
    let low = leb-true 97 c p.0 in
    let high = leb-true c 102 p.1 in
    let same : c - 87 ≡ n = cc in
    (omega (arith, low, high, same), digit_high n (omega (arith, low, same)) ∙ omega (arith, low, same))
value_is-letter c n false so e = absurd cc

value_is-step : (c n : ℕ) (test : Bool) → (nat_le 48 c && nat_le c 57) ≡ test → cond test (Some (c - 48)) (cond (nat_le 97 c && nat_le c 102) (Some (c - 87)) None) ≡ Some n → (n < 16) × (hex_digit n ≡ c)
value_is-step c n true so e =
    let p = and_parts _ _ so in
    let low = leb-true 48 c p.0 in
    let high = leb-true c 57 p.1 in
    let same : c - 48 ≡ n = cc in
    (omega (arith, low, high, same), digit_low n (omega (arith, low, high, same)) ∙ omega (arith, low, same))
value_is-step c n false so e = value_is-letter c n (nat_le 97 c && nat_le c 102) refl e

-- A character with a value is the digit with this value.
pub value_is : (c n : ℕ) → hex_value c ≡ Some n → (n < 16) × (hex_digit n ≡ c)
value_is c n e = value_is-step c n (nat_le 48 c && nat_le c 57) refl e

-- A digit has its value.
pub value_from : (n : ℕ) → n < 16 → hex_value (hex_digit n) ≡ Some n
value_from n small = elim (digit_is n) [
  | inl a ↦
      ap hex_value a.1
      ∙ ap (λ (t : Bool). cond t (Some (48 + n - 48)) (cond (nat_le 97 (48 + n) && nat_le (48 + n) 102) (Some (48 + n - 87)) None))
      (and_from _ _ (le-leb 48 (48 + n) (omega arith)) (le-leb (48 + n) 57 (omega (arith, a.0))))
      ∙ ap (λ (k : ℕ). Some k) (omega arith)
  | inr a ↦
      ap hex_value a.1
      ∙ ap (λ (t : Bool). cond t (Some (87 + n - 48)) (cond (nat_le 97 (87 + n) && nat_le (87 + n) 102) (Some (87 + n - 87)) None))
      (and_right (nat_le 48 (87 + n)) (nat_le (87 + n) 57) (lt-leb (87 + n) 57 (omega (arith, a.0))))
      ∙ ap (λ (t : Bool). cond t (Some (87 + n - 87)) None) (and_from _ _ (le-leb 97 (87 + n) (omega (arith, a.0))) (le-leb (87 + n) 102 (omega (arith, small))))
      ∙ ap (λ (k : ℕ). Some k) (omega arith)
]

-- ---- the text of an octet

-- An octet is printed as itself, or by an escape.
abbrev pub Printed : ℕ → Type 0
Printed x = ((is_plain x ≡ true) × (escaped_octet x ≡ x ∷ [])) ⊎ ((is_plain x ≡ false) × (escaped_octet x ≡ hex_octet x))

printed-step : (x : ℕ) (plain : Bool) → is_plain x ≡ plain → Printed x
printed-step x true so = inl (so, ap (λ (p : Bool). cond p (x ∷ []) (hex_octet x)) so)
printed-step x false so = inr (so, ap (λ (p : Bool). cond p (x ∷ []) (hex_octet x)) so)

pub printed : (x : ℕ) → Printed x
printed x = printed-step x (is_plain x) refl

-- No octet that is printed as itself is a backslash.
pub not_slash : (x : ℕ) → is_plain x ≡ true → x ≡ 92 → ⊥
not_slash x plain e = let no : is_plain 92 ≡ true = sym (ap is_plain e) ∙ plain in absurd cc

-- An octet printed as itself is below 127.
pub plain_small : (x : ℕ) → is_plain x ≡ true → x < 256
plain_small x plain =
    let p = and_parts (nat_le 33 x && nat_le x 126) (not (x == 92)) plain in
    let q = and_parts (nat_le 33 x) (nat_le x 126) p.0 in
    omega (arith, leb-true x 126 q.1)

abbrev pub flat : List ℕ → List ℕ
flat octets = flat_map escaped_octet octets

-- Texts of octets, with what follows: the octets are the same, and so is what follows.
pub same_octet : (x y : ℕ) (s t : List ℕ) → escaped_octet x ++ s ≡ escaped_octet y ++ t → (x ≡ y) × (s ≡ t)
same_octet x y s t e = elim (printed x) [
  | inl a ↦ elim (printed y) [
    | inl b ↦
        let joined : x ∷ s ≡ y ∷ t = sym (ap (λ (o : List ℕ). o ++ s) a.1) ∙ e ∙ ap (λ (o : List ℕ). o ++ t) b.1 in
        (cc, cc)
    | inr b ↦
        let joined : x ∷ s ≡ hex_octet y ++ t = sym (ap (λ (o : List ℕ). o ++ s) a.1) ∙ e ∙ ap (λ (o : List ℕ). o ++ t) b.1 in
        absurd (not_slash x a.0 cc)
  ]
  | inr a ↦ elim (printed y) [
    | inl b ↦
        let joined : hex_octet x ++ s ≡ y ∷ t = sym (ap (λ (o : List ℕ). o ++ s) a.1) ∙ e ∙ ap (λ (o : List ℕ). o ++ t) b.1 in
        let head : y ≡ 92 = cc in
        absurd (not_slash y b.0 head)
    | inr b ↦
        let joined : hex_octet x ++ s ≡ hex_octet y ++ t = sym (ap (λ (o : List ℕ). o ++ s) a.1) ∙ e ∙ ap (λ (o : List ℕ). o ++ t) b.1 in
        let high : hex_digit (x / 16) ≡ hex_digit (y / 16) = cc in
        let low : hex_digit (x % 16) ≡ hex_digit (y % 16) = cc in
        let high_same = digit_same (x / 16) (y / 16) high in
        let low_same = digit_same (x % 16) (y % 16) low in
        (omega (arith, high_same, low_same), cc)
  ]
]

-- The text of an octet has a character.
pub not_empty : (x : ℕ) (s : List ℕ) → escaped_octet x ++ s ≡ [] → ⊥
not_empty x s e = elim (printed x) [
  | inl a ↦ let joined : x ∷ s ≡ [] = sym (ap (λ (o : List ℕ). o ++ s) a.1) ∙ e in absurd cc
  | inr a ↦ let joined : hex_octet x ++ s ≡ [] = sym (ap (λ (o : List ℕ). o ++ s) a.1) ∙ e in absurd cc
]

-- Where the text of octets goes on after that of others, these are the first of them.
pub split_off : (octets all rest : List ℕ) → flat all ≡ flat octets ++ rest → (others : List ℕ) × (all ≡ octets ++ others) × (flat others ≡ rest)
split_off [] all rest e = (all, refl, e)
split_off (o ∷ octets) [] rest e = absurd (not_empty o (flat octets ++ rest) (sym (append_assoc (escaped_octet o) (flat octets) rest) ∙ sym e))
split_off (o ∷ octets) (x ∷ all) rest e =
    let s = same_octet x o (flat all) (flat octets ++ rest) (e ∙ append_assoc (escaped_octet o) (flat octets) rest) in
    let r = split_off octets all rest s.1 in
    (r.0, (let tail = r.1 in let head = s.0 in cc), r.2)

-- ---- what a text goes on with

-- A text of octets goes on with this after these octets and a part: they are the text of no octets,
-- or the part and it begin the text of one more octet.
abbrev pub GoesOnWith : List ℕ → List ℕ → ℕ → Type 0
GoesOnWith octets text c = ((octets ≡ []) × (more : List ℕ) × (92 ∷ 101 ∷ [] ≡ text ++ c ∷ more))
    ⊎ ((x : ℕ) × (others more : List ℕ) × (x < 256) × (escaped_octet x ++ flat others ≡ text ++ c ∷ more))

pub no_octets : (octets more : List ℕ) → 92 ∷ 101 ∷ [] ≡ flat octets ++ more → octets ≡ []
no_octets [] more e = refl
no_octets (o ∷ octets) more e = elim (printed o) [
  | inl a ↦
      let joined : 92 ∷ 101 ∷ [] ≡ o ∷ (flat octets ++ more) = e ∙ append_assoc (escaped_octet o) (flat octets) more ∙ ap (λ (t : List ℕ). t ++ (flat octets ++ more)) a.1 in
      let head : o ≡ 92 = cc in
      absurd (not_slash o a.0 head)
  | inr a ↦
      let joined : 92 ∷ 101 ∷ [] ≡ hex_octet o ++ (flat octets ++ more) = e ∙ append_assoc (escaped_octet o) (flat octets) more ∙ ap (λ (t : List ℕ). t ++ (flat octets ++ more)) a.1 in
      absurd cc
]

goes_with-octets : (octets text others more : List ℕ) (c : ℕ) → AreOctets others → flat others ≡ text ++ c ∷ more → GoesOnWith octets text c
goes_with-octets octets [] [] more c are e = absurd cc
goes_with-octets octets (t ∷ text) [] more c are e = absurd cc
goes_with-octets octets text (x ∷ others) more c are e = inr (x, others, more, are 0, e)

goes_with-value : (value octets text more : List ℕ) (c : ℕ) → AreOctets value → escaped value ≡ ((flat octets ++ text) ++ c ∷ []) ++ more → GoesOnWith octets text c
goes_with-value [] octets text more c are e =
    let joined : 92 ∷ 101 ∷ [] ≡ flat octets ++ (text ++ c ∷ more) = e ∙ append_assoc (flat octets ++ text) (c ∷ []) more ∙ append_assoc (flat octets) text (c ∷ more) in
    let none = no_octets octets (text ++ c ∷ more) joined in
    inl (none, more, joined ∙ ap (λ (o : List ℕ). flat o ++ (text ++ c ∷ more)) none)
goes_with-value (x ∷ value) octets text more c are e =
    let joined : flat (x ∷ value) ≡ flat octets ++ (text ++ c ∷ more) = e ∙ append_assoc (flat octets ++ text) (c ∷ []) more ∙ append_assoc (flat octets) text (c ∷ more) in
    let s = split_off octets (x ∷ value) (text ++ c ∷ more) joined in
    goes_with-octets octets text s.0 more c (AreOctets-rest (x ∷ value) octets s.0 s.1 are) s.2

pub goes_with : (octets text : List ℕ) (c : ℕ) → Begins escaped AreOctets ((flat octets ++ text) ++ c ∷ []) → GoesOnWith octets text c
goes_with octets text c b = goes_with-value b.value octets text b.more c b.so b.split

-- ---- escapes

pub is_not : (b : Bool) → not b ≡ true → b ≡ false
is_not true e = absurd cc
is_not false e = refl

pub is_so : (b : Bool) → not b ≡ false → b ≡ true
is_so true e = refl
is_so false e = absurd cc

pub not_both : {b : Bool} → b ≡ true → b ≡ false → ⊥
not_both t f = let both : true ≡ false = sym t ∙ f in absurd cc

-- Octets whose first digit is 3, 4 or 6 are printed as themselves.
pub row_plain : (x : ℕ) → ((x / 16 ≡ 3) ⊎ (x / 16 ≡ 4)) ⊎ (x / 16 ≡ 6) → is_plain x ≡ true
row_plain x rows =
    let bounds : (33 ≤ x) × (x ≤ 126) × (x ≡ 92 → ⊥) = elim rows [
      | inl low ↦ elim low [ inl three ↦ (omega (arith, three), omega (arith, three), λ e. omega (arith, three, e)) | inr four ↦ (omega (arith, four), omega (arith, four), λ e. omega (arith, four, e)) ]
      | inr six ↦ (omega (arith, six), omega (arith, six), λ e. omega (arith, six, e))
    ] in
    and_from _ _ (and_from _ _ (le-leb 33 x bounds.0) (le-leb x 126 bounds.1)) (not_from_false (x == 92) (false_from_ne_true (x == 92) (λ e. bounds.2 (eqb-true x 92 e))))

pub rows_from : (high : ℕ) → has_escapes high ≡ false → ((high ≡ 3) ⊎ (high ≡ 4)) ⊎ (high ≡ 6)
rows_from high e = elim (and_cases (not (high == 3) && not (high == 4)) (not (high == 6)) e) [
  | inl low ↦ elim (and_cases (not (high == 3)) (not (high == 4)) low) [
    | inl three ↦ inl (inl (eqb-true high 3 (is_so (high == 3) three)))
    | inr four ↦ inl (inr (eqb-true high 4 (is_so (high == 4) four)))
  ]
  | inr six ↦ inr (eqb-true high 6 (is_so (high == 6) six))
]

-- An octet with this first digit is not printed as itself.
abbrev pub HasEscape : ℕ → Type 0
HasEscape high = (x : ℕ) × (x < 256) × (is_plain x ≡ false) × (x / 16 ≡ high)

pub escape_from : (high : ℕ) → high < 16 → has_escapes high ≡ true → HasEscape high
escape_from high small e =
    let p = and_parts (not (high == 3) && not (high == 4)) (not (high == 6)) e in
    let q = and_parts (not (high == 3)) (not (high == 4)) p.0 in
    let three : high ≡ 3 → ⊥ = eqb-false high 3 (is_not (high == 3) q.0) in
    let four : high ≡ 4 → ⊥ = eqb-false high 4 (is_not (high == 4) q.1) in
    let six : high ≡ 6 → ⊥ = eqb-false high 6 (is_not (high == 6) p.1) in
    elim (cases_lt high 3) [
      | inl lt ↦ (16 * high, omega (arith, lt), and_left (nat_le 33 (16 * high) && nat_le (16 * high) 126) (not (16 * high == 92)) (and_left (nat_le 33 (16 * high)) (nat_le (16 * high) 126) (lt-leb 33 (16 * high) (omega (arith, lt)))), omega arith)
      | inr ge ↦ elim (cases_lt high 7) [
        | inl lt ↦ (92, omega arith, refl, omega (arith, ge, lt, three, four, six))
        | inr large ↦ (
          16 * high + 15,
          omega (arith, small),
          and_left (nat_le 33 (16 * high + 15) && nat_le (16 * high + 15) 126) (not (16 * high + 15 == 92)) (and_right (nat_le 33 (16 * high + 15)) (nat_le (16 * high + 15) 126) (lt-leb (16 * high + 15) 126 (omega (arith, large)))),
          omega arith,
        )
      ]
    ]
