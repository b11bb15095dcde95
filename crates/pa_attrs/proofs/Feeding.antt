-- A piece after octets that are held.
use Rattle.std.proofs.Common.{◌≡◌, ℕ, ◌+◌, ◌-◌, ◌<◌, ◌≤◌, min, Bool, false, cond, Some, None, List, [], ◌++◌, length, take, drop, Ok, Err, sym, ap, ◌∙◌, inl, inr, arith, append_assoc, length-append, length-take}
use Rattle.std.specs.Prelude.{nat_lt}
use Rattle.std.proofs.lemmas.Bool.{cases_lt, le-ltb}
use Rattle.std.proofs.lemmas.List.{take_all, take_at, drop_at, take-append-drop, append-nil, length-drop}
use Rattle.std.proofs.Math.Seq.{take-append-add}
use Rattle.pa_attrs.specs.declared.attr.Attr.{Attr}
use Rattle.pa_attrs.specs.declared.fault.AttrFault.{AttrFault}
use Rattle.pa_attrs.specs.declared.header.Header.{Header}
use Rattle.pa_attrs.specs.Numbers.{HEADER, MOST_OCTETS}
use Rattle.pa_attrs.specs.Faults.{stream_header}
use Rattle.pa_attrs.specs.Stream.{Front, More, Bad, Whole, front_of, header_held}
use Rattle.pa_attrs.proofs.Headers.{stream_front, stream_good}
use Rattle.pa_attrs.proofs.Fronts.{front_short, front_bad, front_more, front_whole, more_is}

-- What may become anything is within the most octets.
pub more_within : (octets : List ℕ) → front_of octets ≡ More → length octets ≤ MOST_OCTETS
more_within octets e =
    elim (more_is octets e) [
      | inl short ↦ omega arith
      | inr m ↦ let g = stream_good octets m.0 m.2 in omega (arith, g.within, m.3)
    ]

-- So is a header alone.
pub header_within : (header value : List ℕ) → value ≡ [] → length (take 12 header ++ value) ≤ MOST_OCTETS
header_within header value none = omega (arith, length-append (take 12 header) value, length-take 12 header, ap (λ (o : List ℕ). length o) none)

-- Octets begin with one thing.
not_bad_and_more : (front : Front) (f : AttrFault) → front ≡ Bad f → front ≡ More → ⊥
not_bad_and_more front f bad more = absurd cc

not_whole_and_more : (front : Front) (a : Attr) (n : ℕ) → front ≡ Whole a n → front ≡ More → ⊥
not_whole_and_more front a n whole more = absurd cc

-- What is held is `begun` octets of a header and those of a value; the first octets of the piece
-- went to the header.
module _ (header value piece next : List ℕ) (begun first : ℕ) (size : length header ≡ 12) (within : begun ≤ 12) (in-order : begun < 12 → value ≡ []) (long : length next ≡ 12)
    (used : first ≡ min (12 - begun) (length piece)) (octets : take (begun + first) next ≡ take begun header ++ take first piece) where
  -- that many octets are held
  pub length-held : length (take begun header ++ value) ≡ begun + length value
  length-held = omega (arith, length-append (take begun header) value, length-take begun header)

  -- The header is not whole yet.
  pub still_short : begun + first < 12 → (front_of ((take begun header ++ value) ++ piece) ≡ More) × (take (begun + first) next ++ value ≡ (take begun header ++ value) ++ piece)
  still_short short =
      let none : value ≡ [] = in-order (omega arith) in
      let all : take first piece ≡ piece = take_all first piece (omega arith) in
      let joined : take (begun + first) next ++ value ≡ (take begun header ++ value) ++ piece = rw (octets, none, append-nil (take begun header ++ take first piece), append-nil (take begun header)) (ap (λ (o : List ℕ). take begun header ++ o) all) in
      let few : length ((take begun header ++ value) ++ piece) < 12 = omega (arith, length-append (take begun header ++ value) piece, length-held, ap (λ (o : List ℕ). length o) none) in
      (front_short ((take begun header ++ value) ++ piece) few, joined)

  -- Once it is, the octets in all are the header, the value, and the rest of the piece.
  module _ (enough : 12 ≤ begun + first) where
    all_header : next ≡ take begun header ++ take first piece
    all_header = let is : begun + first ≡ 12 = omega arith in sym (take_all (begun + first) next (omega arith)) ∙ octets

    -- the header was whole before, and nothing of the piece went to it
    held_before : 12 ≤ begun → take begun header ++ value ≡ next ++ value
    held_before full =
        let none : first ≡ 0 = omega arith in
        let header-is : take begun header ≡ next = sym (all_header ∙ ap (λ (n : ℕ). take begun header ++ take n piece) none ∙ append-nil (take begun header)) in
        ap (λ (o : List ℕ). o ++ value) header-is

    pub in_all : (take begun header ++ value) ++ piece ≡ next ++ (value ++ drop first piece)
    in_all =
        elim (cases_lt begun 12) [
          | inl short ↦ let none : value ≡ [] = in-order short in
              rw (none, append-nil (take begun header)) (ap (λ (o : List ℕ). take begun header ++ o) (sym (take-append-drop first piece)) ∙ sym (append_assoc (take begun header) (take first piece) (drop first piece)) ∙ ap (λ (o : List ℕ). o ++ drop first piece) (sym all_header))
          | inr full ↦ let none : first ≡ 0 = omega arith in
              ap (λ (o : List ℕ). o ++ piece) (held_before full) ∙ append_assoc next value piece ∙ ap (λ (n : ℕ). next ++ (value ++ drop n piece)) (sym none)
        ]

    header-in : HEADER ≤ length (next ++ (value ++ drop first piece))
    header-in = omega (arith, length-append next (value ++ drop first piece))

    -- What was held has no fault in its header, so where one shows, the header was not whole.
    pub no_value : front_of (take begun header ++ value) ≡ More → (fault : AttrFault) → stream_header next ≡ Err fault → value ≡ []
    no_value torn fault is =
        elim (cases_lt begun 12) [
          | inl short ↦ in-order short
          | inr full ↦
              let bad : front_of (next ++ value) ≡ Bad fault = front_bad (next ++ value) fault (omega (arith, length-append next value)) (stream_front next value (omega arith) ∙ is) in
              absurd (not_bad_and_more _ fault (ap front_of (held_before full) ∙ bad) torn)
        ]

    pub shows_bad : front_of (take begun header ++ value) ≡ More → (fault : AttrFault) → stream_header next ≡ Err fault
        → (front_of ((take begun header ++ value) ++ piece) ≡ Bad fault) × (take 12 next ++ value ≡ take 12 ((take begun header ++ value) ++ piece))
    shows_bad torn fault is =
        let none = no_value torn fault is in
        let whole : take 12 next ≡ next = take_all 12 next (omega arith) in (
          ap front_of in_all ∙ front_bad (next ++ (value ++ drop first piece)) fault header-in (stream_front next (value ++ drop first piece) (omega arith) ∙ is),
          ap (λ (o : List ℕ). take 12 next ++ o) none ∙ append-nil (take 12 next) ∙ whole ∙ sym (take_at next (value ++ drop first piece) 12 long) ∙ ap (λ (o : List ℕ). take 12 o) (sym in_all),
        )

    -- The header has no fault.
    module _ (torn : front_of (take begun header ++ value) ≡ More) (said : Header) (is : stream_header next ≡ Ok said) where
      pub least : 12 ≤ said.length
      least = (stream_good next said is).least

      pub most : said.length ≤ 16777216
      most = (stream_good next said is).within

      -- What was held is shorter than the attribute.
      pub held_less : begun + length value < said.length
      held_less =
          elim (cases_lt begun 12) [
            | inl short ↦ omega (arith, least, ap (λ (o : List ℕ). length o) (in-order short))
            | inr full ↦
                let whole : said.length ≤ length (next ++ value) → ⊥ = λ enough-there.
                not_whole_and_more _ _ _ (front_whole (next ++ value) said (omega (arith, length-append next value)) (stream_front next value (omega arith) ∙ is) enough-there) (sym (ap front_of (held_before full)) ∙ torn) in
                elim (cases_lt (length (next ++ value)) said.length) [
                  | inl less ↦ omega (arith, less, length-append next value)
                  | inr enough-there ↦ absurd (whole enough-there)
                ]
          ]

      -- So is the value that was held.
      pub value_less : length value ≤ said.length - 12
      value_less =
          elim (cases_lt begun 12) [
            | inl short ↦ omega (arith, ap (λ (o : List ℕ). length o) (in-order short))
            | inr full ↦ omega (arith, held_less, least)
          ]

      -- A header and a value that are shorter than the attribute are within the most octets.
      pub still_within : (after : List ℕ) → 12 + length after < said.length → length (take 12 next ++ after) ≤ 16777216
      still_within after short = omega (arith, short, most, length-append (take 12 next) after, length-take 12 next)

      -- Octets of the rest of the piece went to the value.
      module _ (after : List ℕ) (more : ℕ) (taken : more ≡ min (said.length - 12 - length value) (length (drop first piece))) (after-is : after ≡ value ++ take more (drop first piece)) where
        length-after : length after ≡ length value + more
        length-after = omega (arith, ap (λ (o : List ℕ). length o) after-is, length-append value (take more (drop first piece)), length-take more (drop first piece))

        said-in : stream_header (next ++ (value ++ drop first piece)) ≡ Ok said
        said-in = stream_front next (value ++ drop first piece) (omega arith) ∙ is

        pub still_more : 12 + length after < said.length
            → (front_of ((take begun header ++ value) ++ piece) ≡ More) × (take 12 next ++ after ≡ (take begun header ++ value) ++ piece)
        still_more short =
            let count : more ≡ length (drop first piece) = omega (arith, length-after, held_less) in
            let all : after ≡ value ++ drop first piece = after-is ∙ ap (λ (o : List ℕ). value ++ o) (take_all more (drop first piece) (omega arith)) in
            let few : length (next ++ (value ++ drop first piece)) < said.length = omega (arith, length-append next (value ++ drop first piece), ap (λ (o : List ℕ). length o) all) in (
              ap front_of in_all ∙ front_more (next ++ (value ++ drop first piece)) said header-in said-in few,
              ap (λ (o : List ℕ). o ++ after) (take_all 12 next (omega arith)) ∙ ap (λ (o : List ℕ). next ++ o) all ∙ sym in_all,
            )

        pub is_whole : said.length ≤ 12 + length after
            → (front_of ((take begun header ++ value) ++ piece) ≡ Whole (record { noskip = said.noskip; vendor = said.vendor; kind = said.kind; value = after }) (length (take begun header ++ value) + (first + more)))
            × (0 < first + more) × (first + more ≤ length piece)
        is_whole enough-there =
            let all : List ℕ = next ++ (value ++ drop first piece) in
            let len : ℕ = said.length - 12 in
            let sum : said.length ≡ 12 + (length value + more) = omega (arith, taken, length-after, value_less, least) in
            let len-is : len ≡ length value + more = omega arith in
            let rest-length : length (drop first piece) ≡ length piece - first = length-drop first piece in
            let there : said.length ≤ length all = omega (arith, length-append next (value ++ drop first piece), length-append value (drop first piece), taken, sum) in
            let value-is : take len (drop 12 all) ≡ after =
            ap (λ (o : List ℕ). take len o) (drop_at next (value ++ drop first piece) 12 long) ∙ ap (λ (n : ℕ). take n (value ++ drop first piece)) len-is ∙ take-append-add value (drop first piece) more ∙ sym after-is in
            let octets-are : said.length ≡ length (take begun header ++ value) + (first + more) = omega (arith, length-held, sum, least, enough) in (
              ap front_of in_all ∙ front_whole all said header-in said-in there
                  ∙ ap (λ (o : List ℕ). Whole (record { noskip = said.noskip; vendor = said.vendor; kind = said.kind; value = o }) said.length) value-is
                  ∙ ap (λ (n : ℕ). Whole (record { noskip = said.noskip; vendor = said.vendor; kind = said.kind; value = after }) n) octets-are,
              omega (arith, held_less, sum, enough),
              omega (arith, taken, used, rest-length),
            )

-- The header that is held is the prefix of what is held.
pub header_is_held : (header value : List ℕ) (begun : ℕ) → length header ≡ 12 → begun ≡ 12 → Some header ≡ header_held (take begun header ++ value)
header_is_held header value begun size full =
    let whole : take begun header ≡ header = take_all begun header (omega arith) in
    let long : nat_lt (length (take begun header ++ value)) HEADER ≡ false = le-ltb (length (take begun header ++ value)) 12 (omega (arith, length-append (take begun header) value, length-take begun header)) in
    let first : take 12 (take begun header ++ value) ≡ header = ap (λ (o : List ℕ). take 12 (o ++ value)) whole ∙ take_at header value 12 size in
    ap (λ (o : List ℕ). Some o) (sym first) ∙ sym (ap (λ (b : Bool). cond b None (Some (take 12 (take begun header ++ value)))) long)
