-- An attribute that a feed has begun, and pieces after what it holds.
use Rattle.std.proofs.Common.{◌≡◌, ℕ, ◌+◌, ◌-◌, ◌<◌, ◌≤◌, min, false, List, [], ◌++◌, length, take, drop, ◌⊎◌, Option, Some, None, Result, Ok, Err, refl, sym, ap, subst, ◌∙◌, append_assoc, arith, inl, inr, ne_eqb, length-append, length-take, length-drop}
use Rattle.std.specs.Prelude.{IfOk}
use Rattle.std.proofs.lemmas.Bool.{lt-ltb, le-ltb}
use Rattle.std.proofs.lemmas.List.{append-nil, take-append-le}
use Rattle.wire_base.specs.Outside.{Moves, NothingLeft}
use Rattle.wire_base.proofs.Streams.{moves_more}
use Rattle.pa_attrs.specs.declared.attr.Attr.{Attr}
use Rattle.pa_attrs.specs.declared.fault.AttrFault.{AttrFault}
use Rattle.pa_attrs.specs.declared.feed.AttrFed.{AttrFed}
use Rattle.pa_attrs.specs.declared.feed.AttrFed.TheVariants as fed
use Rattle.wire_base.specs.declared.layout.field_refused.Refused.{Refused}
use Rattle.pa_attrs.specs.declared.header.Header.{Header}
use Rattle.pa_attrs.specs.Numbers.{HEADER, MOST_OCTETS}
use Rattle.pa_attrs.specs.Header.{header_of}
use Rattle.pa_attrs.specs.Faults.{is_refused, stream_header}
use Rattle.pa_attrs.specs.Stream.{Feeding, fresh, Feeds, FeedsIn, More, Bad, Whole, TakesPiece, front_of}
use Rattle.pa_attrs.proofs.Headers.{header_front, stream_front, stream_good}
use Rattle.pa_attrs.proofs.Fronts.{front_more, bad_is, more_is, whole_is, whole_more}
use Rattle.swid_cli.specs.declared.mirror.first_attribute.Front.TheVariants as front
use Rattle.swid_cli.specs.Front.{REPORT_TYPES, cut, first_of, shows_refused}
use Rattle.swid_cli.specs.Steps.{IsBegun, TakesFirst}
use Rattle.swid_cli.proofs.Fronts.{first_begins, long_shows, moves_told, parts_length, rest_is, seen_header, seen_held}

-- ---- what a header says of a whole attribute

-- The header counts the octets of the attribute, and the value has those after the header.
pub whole_says : (octets : List ℕ) (attr : Attr) (len : ℕ) → front_of octets ≡ Whole attr len
    → ((header_of octets).length ≡ len) × (len ≡ HEADER + length attr.value) × (HEADER ≤ len) × (len ≤ MOST_OCTETS) × (len ≤ length octets)
whole_says octets attr len e =
    let w = whole_is octets attr len e in
    let g = stream_good octets w.h w.good in
    let value : length attr.value ≡ length (take (w.h.length - 12) (drop 12 octets)) = ap (λ (a : Attr). length a.value) (sym w.attr-is) in (
      ap (λ (h : Header). h.length) g.is ∙ w.len-is,
      omega (arith, value, length-take (w.h.length - 12) (drop 12 octets), length-drop 12 octets, w.len-is, w.least, w.within),
      w.least,
      w.most,
      w.within,
    )

abbrev good_header : Header → Result Header AttrFault
good_header h = Ok h

-- A header has a fault or none.
one_only : (said : Result Header AttrFault) (h : Header) (fault : AttrFault) → said ≡ Ok h → said ≡ Err fault → ⊥
one_only said h fault good bad = never (sym good ∙ bad)
  where
    never : good_header h ≡ Err fault → ⊥
    never e = cc

-- ---- nothing whole

pub cut_torn : (room count : ℕ) → 0 < count → count ≤ room → cut room count ≡ front.Torn count
cut_torn room count some within = rw (le-ltb room count within, ne_eqb count 0 (λ e. omega (arith, e, some))) refl

pub cut_limit : (room count : ℕ) → room < count → cut room count ≡ front.Limit
cut_limit room count over = rw (lt-ltb room count over) refl

-- ---- what is begun

module _ (room len : ℕ) (feed : Feeding) (begun : IsBegun room len feed) where
  -- some octets are wanting, and there is no fault in the header
  begun_by : (length feed.octets < HEADER) ⊎ ((h : Header) × (HEADER ≤ length feed.octets) × (stream_header feed.octets ≡ Ok h) × (length feed.octets < h.length))
      → (h : Header) × (stream_header feed.octets ≡ Ok h) × (h.length ≡ len) × (length feed.octets < len) × (len ≤ MOST_OCTETS)
  begun_by (inl short) = absurd (omega (arith, short, begun.header))
  begun_by (inr m) =
      let g = stream_good feed.octets m.0 m.2 in
      let is : m.0.length ≡ len = ap (λ (h : Header). h.length) (sym g.is) ∙ begun.said in
      (m.0, m.2, is, omega (arith, is, m.3), omega (arith, is, g.within))

  pub wanting : (h : Header) × (stream_header feed.octets ≡ Ok h) × (h.length ≡ len) × (length feed.octets < len) × (len ≤ MOST_OCTETS)
  wanting = begun_by (more_is feed.octets begun.more)

  -- a piece after it leaves the header as it is
  header_stays : (piece : List ℕ) → header_of (feed.octets ++ piece) ≡ header_of feed.octets
  header_stays piece = header_front feed.octets piece begun.header

  -- so no fault shows in it then
  pub no_fault : (piece : List ℕ) (fault : AttrFault) → front_of (feed.octets ++ piece) ≡ Bad fault → ⊥
  no_fault piece fault e =
      let bad = bad_is (feed.octets ++ piece) fault e in
      let good : stream_header (feed.octets ++ piece) ≡ Ok wanting.0 = stream_front feed.octets piece begun.header ∙ wanting.1 in
      one_only (stream_header (feed.octets ++ piece)) wanting.0 fault good bad.1

  pub still_begun : (piece : List ℕ) (after : Feeding) → TakesPiece feed.octets piece fed.More after → length feed.octets + length piece ≤ room → IsBegun room len after
  still_begun piece after takes within = subst (λ (f : Feeding). IsBegun room len f) (sym takes.1) (record {
    goes = refl;
    header = omega (arith, length-append feed.octets piece, begun.header);
    more = takes.0;
    said = ap (λ (h : Header). h.length) (header_stays piece) ∙ begun.said;
    passed = ap (is_refused REPORT_TYPES) (header_stays piece) ∙ begun.passed;
    within = omega (arith, length-append feed.octets piece, within);
  })

  -- an attribute that is whole with it has as many octets as were begun
  pub whole_len : (piece : List ℕ) (attr : Attr) (used : ℕ) → front_of (feed.octets ++ piece) ≡ Whole attr (length feed.octets + used) → (length feed.octets + used ≡ len) × (len ≡ HEADER + length attr.value)
  whole_len piece attr used e =
      let w = whole_says (feed.octets ++ piece) attr (length feed.octets + used) e in
      let is : length feed.octets + used ≡ len = sym w.0 ∙ ap (λ (h : Header). h.length) (header_stays piece) ∙ begun.said in
      (is, sym is ∙ w.1)

  -- all octets, of which the feed holds some
  module _ (octets rest : List ℕ) (parts : octets ≡ feed.octets ++ rest) where
    seen : (HEADER ≤ length (take room octets)) × (header_of (take room octets) ≡ header_of feed.octets)
    seen = seen_header room octets feed.octets rest parts begun.header begun.within

    not-refused : shows_refused (take room octets) ≡ false
    not-refused = long_shows (take room octets) seen.0 ∙ ap (is_refused REPORT_TYPES) seen.1 ∙ begun.passed

    seen-is : take room octets ≡ feed.octets ++ take (room - length feed.octets) rest
    seen-is = ap (λ (o : List ℕ). take room o) parts ∙ seen_held room feed.octets rest begun.within

    -- nothing shows where less than the attribute may be looked at or is left
    nothing_shows : length (take room octets) < len → first_of room octets ≡ cut room (length octets)
    nothing_shows short =
        let good : stream_header (take room octets) ≡ Ok wanting.0 = ap stream_header seen-is ∙ stream_front feed.octets (take (room - length feed.octets) rest) begun.header ∙ wanting.1 in
        first_begins room octets More not-refused (front_more (take room octets) wanting.0 seen.0 good (omega (arith, short, wanting.2)))

    pub is_torn : (left : Option (List ℕ)) → left ≡ Some rest → rest ≡ [] → TakesFirst room octets left (front.Torn (length feed.octets))
    is_torn left still none =
        let all : octets ≡ feed.octets = parts ∙ ap (λ (o : List ℕ). feed.octets ++ o) none ∙ append-nil feed.octets in
        let count : length octets ≡ length feed.octets = ap (λ (o : List ℕ). length o) all in
        let short : length (take room octets) < len = omega (arith, length-take room octets, count, wanting.3) in
        let within : length octets ≤ room = omega (arith, count, begun.within) in
        let some : 0 < length octets = omega (arith, count, begun.header) in (
          sym (nothing_shows short ∙ cut_torn room (length octets) some within ∙ ap (λ (n : ℕ). front.Torn n) count),
          still ∙ ap (λ (o : List ℕ). Some o) none,
        )

    -- a piece of what is left was read
    module _ (piece behind : List ℕ) (left : Option (List ℕ)) (still : left ≡ Some behind) (read : rest ≡ piece ++ behind) where
      joined : octets ≡ (feed.octets ++ piece) ++ behind
      joined = parts ∙ ap (λ (o : List ℕ). feed.octets ++ o) read ∙ sym (append_assoc feed.octets piece behind)

      size : length octets ≡ (length feed.octets + length piece) + length behind
      size = parts_length octets (feed.octets ++ piece) behind joined ∙ omega (arith, length-append feed.octets piece)

      left_at : (count : ℕ) → length feed.octets + length piece ≡ count → left ≡ Some (drop count octets)
      left_at count is =
          let all : length (feed.octets ++ piece) ≡ count = length-append feed.octets piece ∙ is in
          still ∙ ap (λ (o : List ℕ). Some o) (rest_is octets (feed.octets ++ piece) behind joined ∙ ap (λ (n : ℕ). drop n octets) all)

      pub is_beyond : room < length feed.octets + length piece → length feed.octets + length piece ≤ min len (room + 1) → TakesFirst room octets left front.Limit
      is_beyond over most =
          let beyond : room < length octets = omega (arith, size, over) in
          let short : length (take room octets) < len = omega (arith, length-take room octets, over, most) in
          (sym (nothing_shows short ∙ cut_limit room (length octets) beyond), left_at (room + 1) (omega (arith, over, most)))

      pub is_whole : (attr : Attr) (used : ℕ) → length feed.octets + length piece ≤ room → length feed.octets + length piece ≤ len → used ≤ length piece
          → front_of (feed.octets ++ piece) ≡ Whole attr (length feed.octets + used) → TakesFirst room octets left (front.Whole attr len)
      is_whole attr used within most taken e =
          let all = whole_len piece attr used e in
          let held : length (feed.octets ++ piece) ≤ room = omega (arith, length-append feed.octets piece, within) in
          let there : take room octets ≡ (feed.octets ++ piece) ++ take (room - length (feed.octets ++ piece)) behind = ap (λ (o : List ℕ). take room o) joined ∙ seen_held room (feed.octets ++ piece) behind held in
          let stays = whole_more (feed.octets ++ piece) (take (room - length (feed.octets ++ piece)) behind) attr (length feed.octets + used) e in (
            sym (first_begins room octets (Whole attr len) not-refused (ap front_of there ∙ stays ∙ ap (λ (n : ℕ). Whole attr n) all.0)),
            left_at len (omega (arith, all.0, most, taken)),
          )

-- ---- what a feed answers

abbrev nothing : List ℕ
nothing = []

-- A feed that goes on answers by the octets joined.
pub takes_of : (before : Feeding) (piece : List ℕ) (answer : AttrFed) (after : Feeding) → before.stopped ≡ None → Feeds before piece answer after → TakesPiece before.octets piece answer after
takes_of before piece answer after goes feeds = subst (λ (stopped : Option (Refused AttrFault)). FeedsIn stopped before piece answer after) goes feeds

-- So does a feed that has taken nothing.
pub fresh_takes : (before after : Feeding) (piece held : List ℕ) (answer : AttrFed) → before ≡ fresh → piece ≡ held → Feeds before piece answer after → TakesPiece [] held answer after
fresh_takes before after piece held answer is same feeds =
    subst (λ (o : List ℕ). TakesPiece [] o answer after) same (takes_of fresh piece answer after refl (subst (λ (f : Feeding). Feeds f piece answer after) is feeds))

-- An attribute that is whole with its header has no value.
pub header_whole : (held : List ℕ) (attr : Attr) (used : ℕ) (after : Feeding) → length held ≡ HEADER → TakesPiece [] held (fed.Done attr used) after
    → (front_of held ≡ Whole attr (header_of held).length) × ((header_of held).length ≡ HEADER) × ((header_of held).length ≡ HEADER + length attr.value)
header_whole held attr used after size takes =
    let none : length (nothing) + used ≡ used = omega arith in
    let is : front_of held ≡ Whole attr used = takes.0 ∙ ap (λ (n : ℕ). Whole attr n) none in
    let w = whole_says held attr used is in
    (is ∙ ap (λ (n : ℕ). Whole attr n) (sym w.0), omega (arith, w.0, w.2, takes.2, size), w.0 ∙ w.1)

-- What holds of each value that is given.
pub if_ok : {A E : Type 0} (result : Result A E) (P Q : A → Type 0) → ((given : A) → P given → Q given) → IfOk result P → IfOk result Q
if_ok (Ok given) P Q then is = then given is
if_ok (Err refused) P Q then is = tt

-- A piece of a buffer of which more is there.
pub piece_is : (count : ℕ) (buffer other : List ℕ) → count ≤ length buffer → take count (buffer ++ other) ≡ take count buffer
piece_is count buffer other within = take-append-le count buffer other within

pub none_moved : (left1 left2 : Option (List ℕ)) (count : ℕ) (buffer : List ℕ) → count ≡ 0 → Moves left1 left2 (take count buffer) → Moves left1 left2 []
none_moved left1 left2 count buffer none moves = subst (λ (n : ℕ). Moves left1 left2 (take n buffer)) none moves

-- That many octets were moved at first and with a piece.
pub moved_on : (start held piece more : List ℕ) (left0 left1 left2 : Option (List ℕ)) (after : Feeding) → held ≡ start ++ more → Moves left0 left1 more → Moves left1 left2 piece → TakesPiece held piece fed.More after
    → (all : List ℕ) × (after.octets ≡ start ++ all) × Moves left0 left2 all
moved_on start held piece more left0 left1 left2 after is moved read takes = (
  more ++ piece,
  ap (λ (f : Feeding). f.octets) takes.1 ∙ ap (λ (o : List ℕ). o ++ piece) is ∙ append_assoc start more piece,
  moves_more left0 left1 left2 more piece moved read,
)

-- ---- from the octets that were left at first

-- What is left after octets that were moved, and all octets by what is held and what is left.
pub left_over : (start held more octets : List ℕ) (left0 left1 : Option (List ℕ)) → left0 ≡ Some octets → held ≡ start ++ more → Moves left0 left1 more
    → (rest : List ℕ) × (left1 ≡ Some rest) × (start ++ octets ≡ held ++ rest)
left_over start held more octets left0 left1 told is moves =
    let m = moves_told octets left1 more (subst (λ (o : Option (List ℕ)). Moves o left1 more) told moves) in
    (m.0, m.1, ap (λ (o : List ℕ). start ++ o) m.2 ∙ sym (append_assoc start more m.0) ∙ ap (λ (o : List ℕ). o ++ m.0) (sym is))

module _ (room len : ℕ) (start feed : Feeding) (begun : IsBegun room len feed) (left0 left1 left2 : Option (List ℕ)) (more : List ℕ) (held : feed.octets ≡ start.octets ++ more) (moved : Moves left0 left1 more)
    (octets : List ℕ) (told : left0 ≡ Some octets) where
  over : (rest : List ℕ) × (left1 ≡ Some rest) × (start.octets ++ octets ≡ feed.octets ++ rest)
  over = left_over start.octets feed.octets more octets left0 left1 told held moved

  -- the input ended
  pub ended_torn : Moves left1 left2 [] → NothingLeft left1 → TakesFirst room (start.octets ++ octets) left2 (front.Torn (length feed.octets))
  ended_torn none ended =
      let nothing : over.0 ≡ [] = subst (λ (o : Option (List ℕ)). NothingLeft o) over.1 ended in
      let m = moves_told over.0 left2 [] (subst (λ (o : Option (List ℕ)). Moves o left2 []) over.1 none) in
      is_torn room len feed begun (start.octets ++ octets) over.0 over.2 left2 (m.1 ∙ ap (λ (o : List ℕ). Some o) (sym m.2)) nothing

  -- a piece was read
  module _ (piece : List ℕ) (read : Moves left1 left2 piece) where
    next : (behind : List ℕ) × (left2 ≡ Some behind) × (over.0 ≡ piece ++ behind)
    next = moves_told over.0 left2 piece (subst (λ (o : Option (List ℕ)). Moves o left2 piece) over.1 read)

    pub went_beyond : room < length feed.octets + length piece → length feed.octets + length piece ≤ min len (room + 1) → TakesFirst room (start.octets ++ octets) left2 front.Limit
    went_beyond = is_beyond room len feed begun (start.octets ++ octets) over.0 over.2 piece next.0 left2 next.1 next.2

    pub found_whole : (attr : Attr) (used : ℕ) → length feed.octets + length piece ≤ room → length feed.octets + length piece ≤ len → used ≤ length piece
        → front_of (feed.octets ++ piece) ≡ Whole attr (length feed.octets + used) → TakesFirst room (start.octets ++ octets) left2 (front.Whole attr len)
    found_whole = is_whole room len feed begun (start.octets ++ octets) over.0 over.2 piece next.0 left2 next.1 next.2
