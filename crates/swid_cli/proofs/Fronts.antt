-- What was read of the input decides what stands first in it.
use Rattle.std.proofs.Common.{◌≡◌, ℕ, ◌+◌, ◌-◌, ◌<◌, ◌≤◌, min, Bool, true, false, cond, List, [], ◌++◌, length, take, drop, eqb, ◌⊎◌, Option, Some, None, refl, sym, ap, subst, ◌∙◌, append_assoc, arith, inl, inr, length-append, length-take}
use Rattle.std.specs.Prelude.{nat_lt}
use Rattle.std.proofs.lemmas.Bool.{cases_lt, lt-ltb, le-ltb, ltb-true, ltb-false}
use Rattle.std.proofs.Math.Seq.{drop-append_seam, take-append-add}
use Rattle.wire_base.specs.Outside.{Moves, NothingLeft}
use Rattle.wire_base.specs.Passing.{Fills}
use Rattle.pa_attrs.specs.declared.attr.Attr.{Attr}
use Rattle.pa_attrs.specs.declared.fault.AttrFault.{AttrFault}
use Rattle.pa_attrs.specs.Numbers.{HEADER, UNSUPPORTED_ATTRIBUTE}
use Rattle.pa_attrs.specs.Header.{header_of}
use Rattle.pa_attrs.specs.Faults.{fault, is_refused}
use Rattle.pa_attrs.specs.Stream.{Front as Begun, More, Bad, Whole, front_of}
use Rattle.pa_attrs.proofs.Headers.{header_front}
use Rattle.pa_attrs.proofs.Fronts.{front_short, bad_more, whole_more}
use Rattle.swid_cli.specs.declared.mirror.first_attribute.Front.TheVariants as front
use Rattle.swid_cli.specs.Front.{REPORT_TYPES, begins, cut, first_of, left_behind, shows_refused}

-- Of some octets, `held` were read and `rest` is left; where fewer than `want` were, nothing is.
pub record HasRead (want : ℕ) (octets : List ℕ) (left : Option (List ℕ)) (held : List ℕ) : Type 0 where
  pub rest : List ℕ
  pub still : left ≡ Some rest
  pub parts : octets ≡ held ++ rest
  pub within : length held ≤ want
  pub ended : length held < want → rest ≡ []

-- Moved octets are the prefix of those that were left.
pub moves_told : (before : List ℕ) (after : Option (List ℕ)) (moved : List ℕ) → Moves (Some before) after moved → (rest : List ℕ) × (after ≡ Some rest) × (before ≡ moved ++ rest)
moves_told before None moved moves = absurd (cc)
moves_told before (Some rest) moved moves = (rest, refl, cc)

-- Reading on after what was read.
has_read : (want : ℕ) (octets before held after : List ℕ) (left-before left-after : Option (List ℕ))
    → left-before ≡ Some before → octets ≡ held ++ before → Fills want left-before left-after held after → HasRead want octets left-after after
has_read want octets before held after left-before left-after told parts fills =
    let moved = fills.moved.0 in
    let m = moves_told before left-after moved (subst (λ (o : Option (List ℕ)). Moves o left-after moved) told fills.moved.2) in
    record {
      rest = m.0;
      still = m.1;
      parts = parts ∙ ap (λ (o : List ℕ). held ++ o) m.2 ∙ sym (append_assoc held moved m.0) ∙ ap (λ (o : List ℕ). o ++ m.0) (sym fills.moved.1);
      within = fills.within;
      ended = λ short. subst (λ (o : Option (List ℕ)). NothingLeft o) m.1 (fills.ended short);
    }

-- The first reading, into nothing held.
pub first_read : (size want : ℕ) (octets none held : List ℕ) (left-before left-after : Option (List ℕ))
    → want ≡ size → none ≡ [] → left-before ≡ Some octets → Fills want left-before left-after none held → HasRead size octets left-after held
first_read size want octets none held left-before left-after is-size is-none told fills =
    rw (← is-size) (has_read want octets octets none held left-before left-after told (rw is-none refl) fills)

-- ---- which line of the definition it is

-- Fewer octets than a header has show none that is refused.
pub short_open : (octets : List ℕ) → length octets < HEADER → shows_refused octets ≡ false
short_open octets short = rw (lt-ltb (length octets) HEADER short) refl

-- Others show it where their header is one.
pub long_shows : (octets : List ℕ) → HEADER ≤ length octets → shows_refused octets ≡ is_refused REPORT_TYPES (header_of octets)
long_shows octets long = rw (le-ltb (length octets) HEADER long) refl

pub first_refused : (room : ℕ) (octets : List ℕ) → shows_refused (take room octets) ≡ true → first_of room octets ≡ front.Faulty (fault UNSUPPORTED_ATTRIBUTE 0)
unfolding first_of
first_refused room octets shows = rw shows refl

pub first_begins : (room : ℕ) (octets : List ℕ) (begun : Begun) → shows_refused (take room octets) ≡ false → front_of (take room octets) ≡ begun → first_of room octets ≡ begins room (length octets) begun
unfolding first_of
first_begins room octets begun passed is = rw (passed, is) refl

-- What may be looked at of octets, of which those that are held may, is these and others after
-- them.
pub seen_held : (room : ℕ) (held rest : List ℕ) → length held ≤ room → take room (held ++ rest) ≡ held ++ take (room - length held) rest
seen_held room held rest within =
    let sum : room ≡ length held + (room - length held) = omega arith in
    ap (λ (n : ℕ). take n (held ++ rest)) sum ∙ take-append-add held rest (room - length held)

-- A header that is held is seen.
pub seen_header : (room : ℕ) (octets held rest : List ℕ) → octets ≡ held ++ rest → HEADER ≤ length held → length held ≤ room
    → (HEADER ≤ length (take room octets)) × (header_of (take room octets) ≡ header_of held)
seen_header room octets held rest parts long within =
    let seen : take room octets ≡ held ++ take (room - length held) rest = ap (λ (o : List ℕ). take room o) parts ∙ seen_held room held rest within in
    let sum = length-append held (take (room - length held) rest) in
    let size = ap (λ (o : List ℕ). length o) seen in
    (omega arith, ap header_of seen ∙ header_front held (take (room - length held) rest) long)

-- ---- less than was wanted

cut_same : (room have count : ℕ) → (have ≡ count) ⊎ ((room < have) × (room < count)) → cut room have ≡ cut room count
cut_same room have count (inl same) = ap (λ (n : ℕ). cut room n) same
cut_same room have count (inr both) = rw (lt-ltb room have both.0, lt-ltb room count both.1) refl

pub parts_length : (octets held rest : List ℕ) → octets ≡ held ++ rest → length octets ≡ length held + length rest
parts_length octets held rest parts = ap (λ (o : List ℕ). length o) parts ∙ length-append held rest

nil_length : (rest : List ℕ) → rest ≡ [] → length rest ≡ 0
nil_length rest e = ap (λ (o : List ℕ). length o) e

-- All that is left was read, or more than may be looked at.
all_or_more : (size room : ℕ) (octets : List ℕ) (left : Option (List ℕ)) (held : List ℕ) → HasRead (min size (room + 1)) octets left held → min (length held) room < size
    → (length held ≡ length octets) ⊎ ((room < length held) × (room < length octets))
all_or_more size room octets left held read short =
    let sum = parts_length octets held read.rest read.parts in
    elim (cases_lt (length held) (min size (room + 1))) [
      | inl fewer ↦ (let none = nil_length read.rest (read.ended fewer) in inl (omega arith))
      | inr full ↦ (let within = read.within in inr (omega arith, omega arith))
    ]

behind_cut : (over none : Bool) (room have : ℕ) (octets : List ℕ) (left : Option (List ℕ)) → (over ≡ true → left ≡ Some (drop (room + 1) octets)) → (over ≡ false → left ≡ Some [])
    → left ≡ Some (left_behind room octets (cond over front.Limit (cond none front.End (front.Torn have))))
behind_cut true none room have octets left more ended = more refl
behind_cut false true room have octets left more ended = ended refl
behind_cut false false room have octets left more ended = ended refl

-- What is left are the octets after those that were read.
pub rest_is : (octets held rest : List ℕ) → octets ≡ held ++ rest → rest ≡ drop (length held) octets
rest_is octets held rest parts = sym (ap (λ (o : List ℕ). drop (length held) o) parts ∙ drop-append_seam held rest)

left_after : (octets : List ℕ) (left : Option (List ℕ)) (held : List ℕ) (want count : ℕ) → HasRead want octets left held → length held ≡ count → left ≡ Some (drop count octets)
left_after octets left held want count read is = read.still ∙ ap (λ (o : List ℕ). Some o) (rest_is octets held read.rest read.parts ∙ ap (λ (n : ℕ). drop n octets) is)

-- Where less than `size` octets are there to be looked at, no whole attribute stands first.
is_cut : (size room : ℕ) (octets : List ℕ) (left : Option (List ℕ)) (held : List ℕ) → HasRead (min size (room + 1)) octets left held → min (length held) room < size
    → (cut room (length held) ≡ cut room (length octets)) × (min room (length octets) < size) × (left ≡ Some (left_behind room octets (cut room (length held))))
is_cut size room octets left held read short =
    let which = all_or_more size room octets left held read short in
    let within = read.within in
    let less : min room (length octets) < size = elim which [ inl same ↦ omega arith | inr both ↦ omega arith ] in (
      cut_same room (length held) (length octets) which,
      less,
      behind_cut (nat_lt room (length held)) (eqb (length held) 0) room (length held) octets left
          (λ over. let more : room < length held = ltb-true room (length held) over in left_after octets left held (min size (room + 1)) (room + 1) read (omega arith))
          (λ all. let fewer : length held ≤ room = ltb-false room (length held) all in read.still ∙ ap (λ (o : List ℕ). Some o) (read.ended (omega arith))),
    )

-- ---- the header was read

-- Fewer octets than a header has are left to be looked at.
pub is_short : (room : ℕ) (octets : List ℕ) (left : Option (List ℕ)) (held : List ℕ) → HasRead (min HEADER (room + 1)) octets left held → min (length held) room < HEADER
    → (cut room (length held) ≡ first_of room octets) × (left ≡ Some (left_behind room octets (cut room (length held))))
is_short room octets left held read short =
    let c = is_cut HEADER room octets left held read short in
    let few : length (take room octets) < HEADER = omega (arith, length-take room octets, c.1) in
    (c.0 ∙ sym (first_begins room octets More (short_open (take room octets) few) (front_short (take room octets) few)), c.2)

module _ (room : ℕ) (octets : List ℕ) (left : Option (List ℕ)) (held : List ℕ) (read : HasRead (min HEADER (room + 1)) octets left held) (long : HEADER ≤ min (length held) room) where
  -- it is all that was read
  pub header-held : length held ≡ HEADER
  header-held = let within = read.within in omega arith

  pub header-within : length held ≤ room
  header-within = omega (arith, header-held)

  header-left : left ≡ Some (drop HEADER octets)
  header-left = left_after octets left held (min HEADER (room + 1)) HEADER read header-held

  seen : (HEADER ≤ length (take room octets)) × (header_of (take room octets) ≡ header_of held)
  seen = seen_header room octets held read.rest read.parts (omega (arith, header-held)) header-within

  seen-is : take room octets ≡ held ++ take (room - length held) read.rest
  seen-is = ap (λ (o : List ℕ). take room o) read.parts ∙ seen_held room held read.rest header-within

  shown : (test : Bool) → is_refused REPORT_TYPES (header_of held) ≡ test → shows_refused (take room octets) ≡ test
  shown test is = long_shows (take room octets) seen.0 ∙ ap (is_refused REPORT_TYPES) seen.1 ∙ is

  pub is_unsupported : is_refused REPORT_TYPES (header_of held) ≡ true → (front.Faulty (fault UNSUPPORTED_ATTRIBUTE 0) ≡ first_of room octets) × (left ≡ Some (drop HEADER octets))
  is_unsupported refused = (sym (first_refused room octets (shown true refused)), header-left)

  pub is_faulty : (bad : AttrFault) → is_refused REPORT_TYPES (header_of held) ≡ false → front_of held ≡ Bad bad → (front.Faulty bad ≡ first_of room octets) × (left ≡ Some (drop HEADER octets))
  is_faulty bad passed is =
      (sym (first_begins room octets (Bad bad) (shown false passed) (ap front_of seen-is ∙ bad_more held (take (room - length held) read.rest) bad is)), header-left)

  pub is_header : (attr : Attr) (len : ℕ) → is_refused REPORT_TYPES (header_of held) ≡ false → front_of held ≡ Whole attr len → len ≡ HEADER
      → (front.Whole attr len ≡ first_of room octets) × (left ≡ Some (drop len octets))
  is_header attr len passed is all = (
    sym (first_begins room octets (Whole attr len) (shown false passed) (ap front_of seen-is ∙ whole_more held (take (room - length held) read.rest) attr len is)),
    header-left ∙ ap (λ (n : ℕ). Some (drop n octets)) (sym all),
  )
