-- The header in octets, and its layout, say the same.
use Rattle.std.proofs.Common.{◌≡◌, ℕ, ◌+◌, ◌≤◌, Bool, cond, List, [], ◌∷◌, ◌++◌, length, take, drop, Result, Ok, Err, refl, sym, ap, subst, ◌∙◌, arith, length-append, length-drop}
use Rattle.std.specs.Prelude.{slice_index, slice_range}
use Rattle.std.proofs.lemmas.Bool.{le-ltb}
use Rattle.std.proofs.lemmas.List.{drop-drop}
use Rattle.wire_base.specs.Numbers.{number_of}
use Rattle.wire_base.specs.Layout.{AreOctets, Field, Number, Reserved, Form, is_set}
use Rattle.wire_base.specs.Reading.{Reader, Rest, ◌>>=◌, and_then, done, octets, number}
use Rattle.wire_base.proofs.Exact.{Exact, Anything}
use Rattle.wire_base.proofs.Blocks.{then_number, then_flags, then_reserved, gives}
use Rattle.wire_base.proofs.Spelled.{length-octets_of}
use Rattle.pa_attrs.specs.declared.header.Header.{Header}
use Rattle.pa_attrs.specs.Numbers.{HEADER, MESSAGE_HEADER, NOSKIP}
use Rattle.pa_attrs.specs.AttrForm.{header_fields}
use Rattle.pa_attrs.specs.Header.{header_of}

-- ---- fields that are there

-- A reader gives one value.
abbrev value_of : {A : Type 0} → A → Result (A × Rest) ℕ → A
value_of other (Ok read) = read.0
value_of other (Err place) = other

abbrev read_as : {A : Type 0} → A → Rest → Result (A × Rest) ℕ
read_as value rest = Ok (value, rest)

same_read : {A : Type 0} (x y : A) (r s : Rest) → read_as x r ≡ read_as y s → x ≡ y
same_read x y r s e = ap (λ (read : Result (_ × Rest) ℕ). value_of x read) e

-- Octets that are there are read.
pub octets_there : (size at : ℕ) (all : List ℕ) → size ≤ length all → octets size (record { at = at; octets = all }) ≡ Ok (take size all, record { at = at + size; octets = drop size all })
octets_there size at all long = ap (λ (b : Bool). cond b (Err at) (Ok (take size all, record { at = at + size; octets = drop size all }))) (le-ltb (length all) size long)

number_there : (size at : ℕ) (all : List ℕ) → size ≤ length all → number size (record { at = at; octets = all }) ≡ Ok (number_of (take size all), record { at = at + size; octets = drop size all })
number_there size at all long = ap (λ (r : Result (List ℕ × Rest) ℕ). and_then r (λ spelled. done (number_of spelled))) (octets_there size at all long)

-- The number of the first octet is that octet.
first_is : (all : List ℕ) → 1 ≤ length all → number_of (take 1 all) ≡ slice_index all 0
first_is [] long = absurd (omega arith)
first_is (octet ∷ all) long = omega arith

-- A field is read, and what comes after it, where the octets after it begin at a place of all.
pub next_there : {B : Type 0} (next : ℕ → Reader B) (size from at : ℕ) (all : List ℕ) → from + size ≤ length all
    → (number size >>= next) (record { at = at; octets = drop from all }) ≡ next (number_of (take size (drop from all))) (record { at = at + size; octets = drop (from + size) all })
next_there next size from at all long =
    ap (λ (r : Result (ℕ × Rest) ℕ). and_then r next) (number_there size at (drop from all) (omega (arith, length-drop from all)))
    ∙ ap (λ (o : List ℕ). next (number_of (take size (drop from all))) (record { at = at + size; octets = o })) (drop-drop size from all)

-- ---- the header of an attribute

-- The header of an attribute, field by field.
pub header_block : Reader Header
header_block = do
  flags ← number 1
  vendor ← number 3
  kind ← number 4
  octets ← number 4
  done (record { noskip = is_set flags NOSKIP; vendor = vendor; kind = kind; length = octets })

header_is : (h : Header) → h ≡ record { noskip = h.noskip; vendor = h.vendor; kind = h.kind; length = h.length }
header_is h = refl

header_exact : Exact header_block (λ h. h) header_fields (λ h. Unit {0}) Anything
unfolding header_block
header_exact = then_flags λ flags. then_number λ vendor. then_number λ kind. then_number λ octets.
    gives (record { noskip = is_set flags NOSKIP; vendor = vendor; kind = kind; length = octets }) refl (assumption refl) (λ h k. cc (header_is h))

-- Octets that are enough have it.
header_there : (all : List ℕ) → HEADER ≤ length all → header_block (record { at = 0; octets = all }) ≡ Ok (header_of all, record { at = 12; octets = drop 12 all })
unfolding header_block
header_there all long =
    let flags : number_of (take 1 all) ≡ slice_index all 0 = first_is all (omega arith) in
    next_there (λ flags. number 3 >>= λ vendor. number 4 >>= λ kind. number 4 >>= λ octets. done (record { noskip = is_set flags NOSKIP; vendor = vendor; kind = kind; length = octets })) 1 0 0 all (omega arith)
    ∙ next_there (λ vendor. number 4 >>= λ kind. number 4 >>= λ octets. done (record { noskip = is_set (number_of (take 1 all)) NOSKIP; vendor = vendor; kind = kind; length = octets })) 3 1 1 all (omega arith)
    ∙ next_there (λ kind. number 4 >>= λ octets. done (record { noskip = is_set (number_of (take 1 all)) NOSKIP; vendor = number_of (slice_range all 1 4); kind = kind; length = octets })) 4 4 4 all (omega arith)
    ∙ next_there (λ octets. done (record { noskip = is_set (number_of (take 1 all)) NOSKIP; vendor = number_of (slice_range all 1 4); kind = number_of (slice_range all 4 8); length = octets })) 4 8 8 all (omega arith)
    ∙ ap (λ (n : ℕ). Ok (record { noskip = is_set n NOSKIP; vendor = number_of (slice_range all 1 4); kind = number_of (slice_range all 4 8); length = number_of (slice_range all 8 12) }, record { at = 12; octets = drop 12 all })) flags

-- So they begin with its layout.
pub header_form : (all : List ℕ) → AreOctets all → HEADER ≤ length all → (front : List ℕ) × (all ≡ front ++ drop 12 all) × (length front ≡ 12) × Form (header_fields (header_of all)) front
header_form all are long =
    let f = header_exact.forth (record { at = 0; octets = all }) (header_of all, record { at = 12; octets = drop 12 all }) are (header_there all long) in
    (f.front, f.takes.octets, omega (arith, f.takes.at), subst (λ (h : Header). Form (header_fields h) f.front) f.made f.form)

-- Its layout has that many octets.
pub header_length : (h : Header) (front : List ℕ) → Form (header_fields h) front → length front ≡ 12
header_length h front (flags, a, parts-a, is-flags, (vendor, b, parts-b, is-vendor, (kind, c, parts-c, is-kind, (len, d, parts-d, is-len, none)))) =
    omega (
      arith,
      ap (λ (o : List ℕ). length o) parts-a,
      length-append flags a,
      ap (λ (o : List ℕ). length o) is-flags.1,
      ap (λ (o : List ℕ). length o) parts-b,
      length-append vendor b,
      ap (λ (o : List ℕ). length o) is-vendor.1,
      length-octets_of 3 h.vendor,
      ap (λ (o : List ℕ). length o) parts-c,
      length-append kind c,
      ap (λ (o : List ℕ). length o) is-kind.1,
      length-octets_of 4 h.kind,
      ap (λ (o : List ℕ). length o) parts-d,
      length-append len d,
      ap (λ (o : List ℕ). length o) is-len.1,
      length-octets_of 4 h.length,
      ap (λ (o : List ℕ). length o) none,
    )

-- Octets that begin with it have this header.
pub header_says : (h : Header) (front rest : List ℕ) → Form (header_fields h) front → header_of (front ++ rest) ≡ h
header_says h front rest form =
    let len = header_length h front form in
    let there = header_there (front ++ rest) (omega (arith, len, length-append front rest)) in
    let read = header_exact.back 0 h front rest form tt tt in
    same_read (header_of (front ++ rest)) h _ _ (sym there ∙ read)

-- ---- the header of a message

-- A version and an identifier.
abbrev pub start_fields : ℕ × ℕ → List Field
start_fields start = Number 1 start.0 ∷ Reserved 3 ∷ Number 4 start.1 ∷ []

start_block : Reader (ℕ × ℕ)
start_block = do
  version ← number 1
  reserved ← octets 3
  id ← number 4
  done (version, id)

start_is : (s : ℕ × ℕ) → s ≡ (s.0, s.1)
start_is s = refl

start_exact : Exact start_block (λ s. s) start_fields (λ s. Unit {0}) Anything
unfolding start_block
start_exact = then_number λ version. then_reserved λ reserved. then_number λ id. gives (version, id) refl (assumption refl) (λ s k. cc (start_is s))

start_there : (all : List ℕ) → MESSAGE_HEADER ≤ length all → start_block (record { at = 0; octets = all }) ≡ Ok ((slice_index all 0, number_of (slice_range all 4 8)), record { at = 8; octets = drop 8 all })
unfolding start_block
start_there all long =
    let version : number_of (take 1 all) ≡ slice_index all 0 = first_is all (omega arith) in
    next_there (λ version. octets 3 >>= λ reserved. number 4 >>= λ id. done (version, id)) 1 0 0 all (omega arith)
    ∙ ap (λ (r : Result (List ℕ × Rest) ℕ). and_then r (λ reserved. number 4 >>= λ id. done (number_of (take 1 all), id))) (octets_there 3 1 (drop 1 all) (omega (arith, length-drop 1 all)))
    ∙ ap (λ (o : List ℕ). (number 4 >>= λ id. done (number_of (take 1 all), id)) (record { at = 4; octets = o })) (drop-drop 3 1 all)
    ∙ next_there (λ id. done (number_of (take 1 all), id)) 4 4 4 all (omega arith)
    ∙ ap (λ (n : ℕ). Ok ((n, number_of (slice_range all 4 8)), record { at = 8; octets = drop 8 all })) version

pub start_form : (all : List ℕ) → AreOctets all → MESSAGE_HEADER ≤ length all
    → (front : List ℕ) × (all ≡ front ++ drop 8 all) × (length front ≡ 8) × Form (start_fields (slice_index all 0, number_of (slice_range all 4 8))) front
start_form all are long =
    let f = start_exact.forth (record { at = 0; octets = all }) ((slice_index all 0, number_of (slice_range all 4 8)), record { at = 8; octets = drop 8 all }) are (start_there all long) in
    (f.front, f.takes.octets, omega (arith, f.takes.at), subst (λ (s : ℕ × ℕ). Form (start_fields s) f.front) f.made f.form)

pub start_length : (version id : ℕ) (front : List ℕ) → Form (start_fields (version, id)) front → length front ≡ 8
start_length version id front (first, a, parts-a, is-version, (reserved, b, parts-b, is-reserved, (last, c, parts-c, is-id, none))) =
    omega (
      arith,
      ap (λ (o : List ℕ). length o) parts-a,
      length-append first a,
      ap (λ (o : List ℕ). length o) is-version.1,
      length-octets_of 1 version,
      ap (λ (o : List ℕ). length o) parts-b,
      length-append reserved b,
      is-reserved,
      ap (λ (o : List ℕ). length o) parts-c,
      length-append last c,
      ap (λ (o : List ℕ). length o) is-id.1,
      length-octets_of 4 id,
      ap (λ (o : List ℕ). length o) none,
    )

pub start_says : (version id : ℕ) (front rest : List ℕ) → Form (start_fields (version, id)) front → (slice_index (front ++ rest) 0 ≡ version) × (number_of (slice_range (front ++ rest) 4 8) ≡ id)
start_says version id front rest form =
    let len = start_length version id front form in
    let there = start_there (front ++ rest) (omega (arith, len, length-append front rest)) in
    let read = start_exact.back 0 (version, id) front rest form tt tt in
    let start : (slice_index (front ++ rest) 0, number_of (slice_range (front ++ rest) 4 8)) ≡ (version, id) = same_read _ _ _ _ (sym there ∙ read) in
    (ap (λ (s : ℕ × ℕ). s.0) start, ap (λ (s : ℕ × ℕ). s.1) start)
