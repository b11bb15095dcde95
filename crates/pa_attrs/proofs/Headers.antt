-- The header of an attribute is said by its 12 octets, whatever follows them.
use Rattle.std.proofs.Common.{◌≡◌, ℕ, ◌+◌, ◌≤◌, Bool, true, false, List, [], ◌∷◌, ◌++◌, length, take, drop, get_or, eqb, Ok, refl, ap, subst, ◌∙◌, arith}
use Rattle.std.specs.Prelude.{nat_lt, ◌==◌, ◌||◌}
use Rattle.std.proofs.lemmas.Bool.{ltb-false}
use Rattle.std.proofs.lemmas.List.{drop-append-le, take-append-le, get_or_append_left}
use Rattle.std.proofs.lemmas.List.{length-drop}
use Rattle.pa_attrs.specs.declared.header.Header.{Header}
use Rattle.pa_attrs.specs.Numbers.{HEADER, NO_VENDOR, NO_TYPE, MOST_OCTETS}
use Rattle.pa_attrs.specs.Header.{header_of}
use Rattle.pa_attrs.specs.Faults.{row, first_shown, header_rows, unless, stream_header}

-- Some octets of a prefix are there also with others after it.
slice_front : (from size : ℕ) (front rest : List ℕ) → from + size ≤ length front → take size (drop from (front ++ rest)) ≡ take size (drop from front)
slice_front from size front rest long =
    ap (λ (o : List ℕ). take size o) (drop-append-le from front rest (omega arith)) ∙ take-append-le size (drop from front) rest (omega (arith, length-drop from front))

-- The header is the same, whatever follows.
pub header_front : (front rest : List ℕ) → HEADER ≤ length front → header_of (front ++ rest) ≡ header_of front
header_front front rest long =
    let flags : get_or (front ++ rest) 0 0 ≡ get_or front 0 0 = get_or_append_left front rest 0 0 (omega arith) in
    let vendor = slice_front 1 3 front rest (omega arith) in
    let kind = slice_front 4 4 front rest (omega arith) in
    let len = slice_front 8 4 front rest (omega arith) in
    cc (flags, vendor, kind, len)

-- So are its faults in a stream.
pub stream_front : (front rest : List ℕ) → HEADER ≤ length front → stream_header (front ++ rest) ≡ stream_header front
unfolding stream_header
stream_front front rest long = ap (λ (h : Header). unless (first_shown (header_rows MOST_OCTETS h)) h) (header_front front rest long)

-- A header without a fault passes each test.
passes : (a b c : Bool) (h said : Header) → unless (first_shown (row a 1 1 ∷ row b 1 4 ∷ row c 1 8 ∷ [])) h ≡ Ok said → (a ≡ false) × (b ≡ false) × (c ≡ false) × (h ≡ said)
passes false false false h said e = (refl, refl, refl, cc)
passes true b c h said e = absurd cc
passes false true c h said e = absurd cc
passes false false true h said e = absurd cc

-- Neither of two tests.
neither : (a b : Bool) → (a || b) ≡ false → (a ≡ false) × (b ≡ false)
neither false b e = (refl, e)
neither true b e = absurd cc

-- What is so of a header without a fault, where there are that many octets for the attribute.
pub record IsGood (most : ℕ) (octets : List ℕ) (h : Header) : Type 0 where
  pub is : header_of octets ≡ h
  pub vendor : eqb h.vendor NO_VENDOR ≡ false
  pub kind : eqb h.kind NO_TYPE ≡ false
  pub least : HEADER ≤ h.length
  pub within : h.length ≤ most

good_by : (most : ℕ) (octets : List ℕ) (x h : Header) → header_of octets ≡ x → unless (first_shown (header_rows most x)) x ≡ Ok h → IsGood most octets h
good_by most octets x h of e =
    let p = passes (x.vendor == NO_VENDOR) (x.kind == NO_TYPE) (nat_lt x.length HEADER || nat_lt most x.length) x h e in
    let n = neither (nat_lt x.length HEADER) (nat_lt most x.length) p.2 in
    let is : x ≡ h = p.3 in
    record {
      is = of ∙ is;
      vendor = subst (λ (y : Header). eqb y.vendor NO_VENDOR ≡ false) is p.0;
      kind = subst (λ (y : Header). eqb y.kind NO_TYPE ≡ false) is p.1;
      least = subst (λ (y : Header). HEADER ≤ y.length) is (ltb-false x.length HEADER n.0);
      within = subst (λ (y : Header). y.length ≤ most) is (ltb-false most x.length n.1);
    }

pub unless_good : (most : ℕ) (octets : List ℕ) (h : Header) → unless (first_shown (header_rows most (header_of octets))) (header_of octets) ≡ Ok h → IsGood most octets h
unless_good most octets h e = good_by most octets (header_of octets) h refl e

pub stream_good : (octets : List ℕ) (h : Header) → stream_header octets ≡ Ok h → IsGood MOST_OCTETS octets h
unfolding stream_header
stream_good octets h e = unless_good MOST_OCTETS octets h e
