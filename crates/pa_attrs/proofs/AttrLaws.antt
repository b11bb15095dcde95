-- An attribute's layout, and what the octets of a stream begin with, say the same.
use Rattle.std.proofs.Common.{◌≡◌, ℕ, ◌+◌, ◌-◌, ◌<◌, ◌≤◌, Bool, true, false, List, [], ◌∷◌, ◌++◌, length, take, drop, eqb, Ok, refl, sym, ap, subst, ◌∙◌, append_assoc, arith, length-append, length-take, length-drop}
use Rattle.std.specs.Prelude.{nat_lt, ◌==◌, ◌||◌}
use Rattle.std.proofs.lemmas.Bool.{le-ltb, eqb-true, eqb-false}
use Rattle.std.proofs.lemmas.List.{append-nil, nil_from_length, take-append-drop, take_at, drop_at}
use Rattle.std.proofs.Math.Seq.{take-append-add}
use Rattle.wire_base.specs.Layout.{AreOctets, Flags, Fixed, Form}
use Rattle.wire_base.specs.Written.{Fit, written}
use Rattle.wire_base.proofs.Exact.{Form-append, Form-split, alone, from_alone}
use Rattle.wire_base.proofs.WrittenLaws.{written_form}
use Rattle.pa_attrs.specs.declared.attr.Attr.{Attr}
use Rattle.pa_attrs.specs.declared.header.Header.{Header}
use Rattle.pa_attrs.specs.Numbers.{HEADER, NO_VENDOR, NO_TYPE, MOST_OCTETS}
use Rattle.pa_attrs.specs.AttrForm.{AttrForm, IsNamed, attr_fields, header_fields, header_for}
use Rattle.pa_attrs.specs.Header.{attr_of, header_of}
use Rattle.pa_attrs.specs.Faults.{row, first_shown, header_rows, unless, stream_header}
use Rattle.pa_attrs.specs.Laws.{IsFirst, WholeIsAttribute, FrontStays, NoneIsFront, WrittenIsFirst}
use Rattle.pa_attrs.specs.Stream.{Front, Whole, front_of}
use Rattle.pa_attrs.proofs.Fronts.{front_whole, whole_is, whole_more, bad_more}
use Rattle.pa_attrs.proofs.HeaderForm.{header_form, header_length, header_says}
use Rattle.pa_attrs.proofs.Headers.{IsGood, stream_good}

-- ---- the parts of an attribute

-- A header, and the value.
pub record IsAttr (attr : Attr) (octets : List ℕ) : Type 0 where
  pub header : List ℕ
  pub parts : octets ≡ header ++ attr.value
  pub form : Form (header_fields (header_for attr)) header

pub attr_parts : (attr : Attr) (octets : List ℕ) → Form (attr_fields attr) octets → IsAttr attr octets
attr_parts attr octets form =
    let s = Form-split (header_fields (header_for attr)) (Fixed (length attr.value) attr.value ∷ []) octets form in
    let value = from_alone (Fixed (length attr.value) attr.value) s.1 s.4 in
    record { header = s.0; parts = s.2 ∙ ap (λ (o : List ℕ). s.0 ++ o) value.1; form = s.3 }

pub attr_joined : (attr : Attr) (octets : List ℕ) → IsAttr attr octets → Form (attr_fields attr) octets
attr_joined attr octets is =
    subst (λ (o : List ℕ). Form (attr_fields attr) o) (sym is.parts)
    (Form-append (header_fields (header_for attr)) (Fixed (length attr.value) attr.value ∷ []) is.header attr.value is.form (alone (Fixed (length attr.value) attr.value) attr.value (refl, refl)))

-- It has the octets of both.
pub attr_length : (attr : Attr) (octets : List ℕ) → IsAttr attr octets → length octets ≡ HEADER + length attr.value
attr_length attr octets is =
    omega (arith, ap (λ (o : List ℕ). length o) is.parts, length-append is.header attr.value, header_length (header_for attr) is.header is.form)

-- The header is said first, and the value stands after it.
pub attr_says : (attr : Attr) (octets rest : List ℕ) → IsAttr attr octets → header_of (octets ++ rest) ≡ header_for attr
attr_says attr octets rest is =
    let joined : octets ++ rest ≡ is.header ++ (attr.value ++ rest) = ap (λ (o : List ℕ). o ++ rest) is.parts ∙ append_assoc is.header attr.value rest in
    ap header_of joined ∙ header_says (header_for attr) is.header (attr.value ++ rest) is.form

pub attr_there : (attr : Attr) (octets rest : List ℕ) → IsAttr attr octets → attr_of (header_for attr) (octets ++ rest) ≡ attr
attr_there attr octets rest is =
    let joined : octets ++ rest ≡ is.header ++ (attr.value ++ rest) = ap (λ (o : List ℕ). o ++ rest) is.parts ∙ append_assoc is.header attr.value rest in
    let behind : drop 12 (octets ++ rest) ≡ attr.value ++ rest = ap (λ (o : List ℕ). drop 12 o) joined ∙ drop_at is.header (attr.value ++ rest) 12 (header_length (header_for attr) is.header is.form) in
    let count : 12 + length attr.value - 12 ≡ length attr.value = omega arith in
    let value : take (12 + length attr.value - 12) (drop 12 (octets ++ rest)) ≡ attr.value =
    ap (λ (n : ℕ). take n (drop 12 (octets ++ rest))) count ∙ ap (λ (o : List ℕ). take (length attr.value) o) behind ∙ take_at attr.value rest (length attr.value) refl in
    ap (λ (o : List ℕ). record { noskip = attr.noskip; vendor = attr.vendor; kind = attr.kind; value = o }) value

-- ---- the tests of a header

-- Numbers that differ are not equal.
pub differ : (a b : ℕ) → (a ≡ b → ⊥) → eqb a b ≡ false
differ a b not-same = not_equal (eqb a b) refl
  where
    not_equal : (t : Bool) → eqb a b ≡ t → t ≡ false
    not_equal false e = refl
    not_equal true e = absurd (not-same (eqb-true a b e))

-- The header of an attribute that is named has no fault, where its octets are there.
pub no_fault : (most : ℕ) (attr : Attr) → IsNamed attr → HEADER + length attr.value ≤ most → unless (first_shown (header_rows most (header_for attr))) (header_for attr) ≡ Ok (header_for attr)
no_fault most attr named within =
    let vendor : (attr.vendor == NO_VENDOR) ≡ false = differ attr.vendor NO_VENDOR (λ same. omega (arith, named.vendor)) in
    let kind : (attr.kind == NO_TYPE) ≡ false = differ attr.kind NO_TYPE (λ same. omega (arith, named.kind)) in
    let least : nat_lt (12 + length attr.value) 12 ≡ false = le-ltb (12 + length attr.value) 12 (omega arith) in
    let enough : nat_lt most (12 + length attr.value) ≡ false = le-ltb most (12 + length attr.value) within in
    by_tests (attr.vendor == NO_VENDOR) (attr.kind == NO_TYPE) (nat_lt (12 + length attr.value) 12) (nat_lt most (12 + length attr.value)) (header_for attr) vendor kind least enough
  where
    by_tests : (a b c d : Bool) (h : Header) → a ≡ false → b ≡ false → c ≡ false → d ≡ false → unless (first_shown (row a 1 1 ∷ row b 1 4 ∷ row (c || d) 1 8 ∷ [])) h ≡ Ok h
    by_tests false false false false h a b c d = refl
    by_tests true b c d h is q r s = absurd cc
    by_tests false true c d h p is r s = absurd cc
    by_tests false false true d h p q is s = absurd cc
    by_tests false false false true h p q r is = absurd cc

-- A number of octets that is not the last one is below it.
below_last : (value last : ℕ) → value ≤ last → eqb value last ≡ false → value < last
below_last value last within differs = let not-same = eqb-false value last differs in omega (arith, not-same)

-- A header of octets that has no fault is that of the attribute that it begins, and this is named.
pub record Makes (h : Header) (octets : List ℕ) : Type 0 where
  pub is-for : header_for (attr_of h octets) ≡ h
  pub named : IsNamed (attr_of h octets)
  pub form : IsAttr (attr_of h octets) (take h.length octets)

pub good_makes : (most : ℕ) (octets : List ℕ) (h : Header) → AreOctets octets → h.length ≤ length octets → IsGood most octets h → Makes h octets
good_makes most octets h are enough good =
    let least = good.least in
    let f = header_form octets are (omega (arith, enough)) in
    let form : Form (header_fields h) f.0 = subst (λ (x : Header). Form (header_fields x) f.0) good.is f.3 in
    let len : ℕ = h.length - 12 in
    let value : List ℕ = take len (drop 12 octets) in
    let count : 12 + length value ≡ h.length = omega (arith, length-take len (drop 12 octets), length-drop 12 octets) in
    let is-for : header_for (attr_of h octets) ≡ h = ap (λ (n : ℕ). record { noskip = h.noskip; vendor = h.vendor; kind = h.kind; length = n }) count in
    let sum : h.length ≡ length f.0 + len = omega (arith, f.2) in
    let parts : take h.length octets ≡ f.0 ++ value = ap (λ (n : ℕ). take n octets) sum ∙ ap (λ (o : List ℕ). take (length f.0 + len) o) f.1 ∙ take-append-add f.0 (drop 12 octets) len in
    let vendor = form.4.3.0 in
    let kind = form.4.4.3.0 in
    record {
      is-for = is-for;
      named = record { vendor = below_last h.vendor NO_VENDOR (omega (arith, vendor)) good.vendor; kind = below_last h.kind NO_TYPE (omega (arith, kind)) good.kind };
      form = record { header = f.0; parts = parts; form = subst (λ (x : Header). Form (header_fields x) f.0) (sym is-for) form };
    }

-- ---- the laws

-- An attribute that stands first is whole.
pub first_whole : (attr : Attr) (octets rest : List ℕ) → AttrForm attr octets → front_of (octets ++ rest) ≡ Whole attr (length octets)
unfolding stream_header
first_whole attr octets rest is =
    let parts = attr_parts attr octets is.form in
    let len = attr_length attr octets parts in
    let within : HEADER + length attr.value ≤ MOST_OCTETS = omega (arith, len, is.within) in
    let says : stream_header (octets ++ rest) ≡ Ok (header_for attr) = said (header_of (octets ++ rest)) (attr_says attr octets rest parts) (no_fault MOST_OCTETS attr is.named within) in
    front_whole (octets ++ rest) (header_for attr) (omega (arith, len, length-append octets rest)) says (omega (arith, len, length-append octets rest))
    ∙ ap (λ (a : Attr). Whole a (HEADER + length attr.value)) (attr_there attr octets rest parts) ∙ ap (λ (n : ℕ). Whole attr n) (sym len)
  where
    said : (h : Header) → h ≡ header_for attr → unless (first_shown (header_rows MOST_OCTETS (header_for attr))) (header_for attr) ≡ Ok (header_for attr) → unless (first_shown (header_rows MOST_OCTETS h)) h ≡ Ok (header_for attr)
    said h is e = subst (λ (x : Header). unless (first_shown (header_rows MOST_OCTETS x)) x ≡ Ok (header_for attr)) (sym is) e

-- A whole attribute stands first.
whole_first : (octets : List ℕ) (attr : Attr) (len : ℕ) → AreOctets octets → front_of octets ≡ Whole attr len → IsFirst attr len octets
whole_first octets attr len are e =
    let w = whole_is octets attr len e in
    let good = stream_good octets w.h w.good in
    let m = good_makes MOST_OCTETS octets w.h are (omega (arith, w.within, w.len-is)) good in
    let all : length (take len octets) ≡ len = omega (arith, length-take len octets, w.within) in
    let taken : take w.h.length octets ≡ take len octets = ap (λ (n : ℕ). take n octets) w.len-is in
    let form : IsAttr attr (take len octets) = subst (λ (a : Attr). IsAttr a (take len octets)) w.attr-is (subst (λ (o : List ℕ). IsAttr (attr_of w.h octets) o) taken m.form) in (
      take len octets,
      drop len octets,
      sym (take-append-drop len octets),
      all,
      record { form = attr_joined attr (take len octets) form; named = subst IsNamed w.attr-is m.named; within = omega (arith, all, w.most) },
    )

pub whole_is_attribute : WholeIsAttribute
whole_is_attribute octets attr len are = (
  whole_first octets attr len are,
  λ (attribute, rest, parts, count, form). ap front_of parts ∙ first_whole attr attribute rest form ∙ ap (λ (n : ℕ). Whole attr n) count,
)

pub front_stays : FrontStays
front_stays octets rest = (λ attr len. whole_more octets rest attr len, λ fault. bad_more octets rest fault)

pub none_is_front : NoneIsFront
none_is_front attr other octets rest is is-other =
    let one : front_of (octets ++ rest) ≡ Whole attr (length octets) = first_whole attr octets rest is in
    let two : front_of (octets ++ rest) ≡ Whole other (length (octets ++ rest)) = ap front_of (sym (append-nil (octets ++ rest))) ∙ first_whole other (octets ++ rest) [] is-other in
    let lengths = lengths_of (front_of (octets ++ rest)) attr other (length octets) (length (octets ++ rest)) one two in
    nil_from_length rest (omega (arith, lengths, length-append octets rest))
  where
    lengths_of : (front : Front) (a b : Attr) (m n : ℕ) → front ≡ Whole a m → front ≡ Whole b n → m ≡ n
    lengths_of front a b m n one two = cc

-- ---- what is written

-- The flag of an attribute is written as it is.
flag_fits : (noskip : Bool) → Fit (Flags ((128, noskip) ∷ []) ∷ [])
flag_fits true = ((refl, tt), tt)
flag_fits false = ((refl, tt), tt)

-- An attribute that is named has room in its fields.
pub attr_fit : (attr : Attr) → IsNamed attr → HEADER + length attr.value ≤ MOST_OCTETS → Fit (attr_fields attr)
attr_fit attr named within = ((flag_fits attr.noskip).0, (omega (arith, named.vendor), (omega (arith, named.kind), (omega arith, (refl, tt)))))

pub written_is_attr : (attr : Attr) → IsNamed attr → HEADER + length attr.value ≤ MOST_OCTETS → AttrForm attr (written (attr_fields attr))
written_is_attr attr named within =
    let form = written_form (attr_fields attr) (attr_fit attr named within) in
    let len = attr_length attr (written (attr_fields attr)) (attr_parts attr (written (attr_fields attr)) form) in
    record { form = form; named = named; within = omega (arith, len) }

pub written_is_first : WrittenIsFirst
written_is_first attr rest named within =
    let is = written_is_attr attr named within in
    let len = attr_length attr (written (attr_fields attr)) (attr_parts attr (written (attr_fields attr)) is.form) in
    first_whole attr (written (attr_fields attr)) rest is ∙ ap (λ (n : ℕ). Whole attr n) len
