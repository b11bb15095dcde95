-- What the octets of a stream begin with, and that it stays so when others come after them: the
-- laws of `wire_base/proofs/Fronts.antt`, of attributes.
use Rattle.std.proofs.Common.{◌≡◌, ℕ, ◌-◌, ◌<◌, ◌≤◌, List, [], ◌++◌, length, take, drop, Result, Ok, Err, sym, ap, ◌∙◌, ◌⊎◌, inl, inr, arith, length-append}
use Rattle.std.proofs.lemmas.List.{drop-append-le, take-append-le, length-drop}
use Rattle.wire_base.proofs.Fronts as laws
use Rattle.wire_base.proofs.Fronts.{Seen, Short, Torn, Waits, Full}
use Rattle.pa_attrs.specs.declared.attr.Attr.{Attr}
use Rattle.pa_attrs.specs.declared.fault.AttrFault.{AttrFault}
use Rattle.pa_attrs.specs.declared.header.Header.{Header}
use Rattle.pa_attrs.specs.Numbers.{HEADER, MOST_OCTETS}
use Rattle.pa_attrs.specs.Header.{attr_of}
use Rattle.pa_attrs.specs.Faults.{stream_header}
use Rattle.pa_attrs.specs.Stream.{More, Bad, Whole, stream, front_of}
use Rattle.pa_attrs.proofs.Headers.{stream_front, stream_good}

-- ---- by how much of the attribute is there

-- Fewer octets than a header has may become anything.
pub front_short : (octets : List ℕ) → length octets < HEADER → front_of octets ≡ More
unfolding front_of
front_short octets short = laws.short_front stream octets short

-- What a header, or its fault, makes of the octets.
pub front_bad : (octets : List ℕ) (fault : AttrFault) → HEADER ≤ length octets → stream_header octets ≡ Err fault → front_of octets ≡ Bad fault
unfolding front_of
front_bad octets fault long is = laws.torn_front stream octets fault long is

pub front_more : (octets : List ℕ) (h : Header) → HEADER ≤ length octets → stream_header octets ≡ Ok h → length octets < h.length → front_of octets ≡ More
unfolding front_of
front_more octets h long is short = laws.waiting_front stream octets h long is short

pub front_whole : (octets : List ℕ) (h : Header) → HEADER ≤ length octets → stream_header octets ≡ Ok h → h.length ≤ length octets → front_of octets ≡ Whole (attr_of h octets) h.length
unfolding front_of
front_whole octets h long is enough = laws.full_front stream octets h long is enough

-- ---- the other way

seen : (octets : List ℕ) → Seen stream octets (front_of octets)
unfolding front_of
seen octets = laws.seen stream octets

bad_by : (octets : List ℕ) (fault : AttrFault) → Seen stream octets (front_of octets) → front_of octets ≡ Bad fault → (HEADER ≤ length octets) × (stream_header octets ≡ Err fault)
bad_by octets fault (Short short is) e = absurd cc
bad_by octets fault (Torn other long err is) e =
    let same : Bad other ≡ Bad fault = sym is ∙ e in
    let one : other ≡ fault = cc in
    (long, err ∙ ap (λ (f : AttrFault). Err f) one)
bad_by octets fault (Waits h long ok short is) e = absurd cc
bad_by octets fault (Full h long ok all is) e = absurd cc

-- A fault shows in the header.
pub bad_is : (octets : List ℕ) (fault : AttrFault) → front_of octets ≡ Bad fault → (HEADER ≤ length octets) × (stream_header octets ≡ Err fault)
bad_is octets fault e = bad_by octets fault (seen octets) e

-- A whole attribute has a header without a fault, and as many octets as this says.
pub record IsWhole (octets : List ℕ) (attr : Attr) (len : ℕ) : Type 0 where
  pub h : Header
  pub good : stream_header octets ≡ Ok h
  pub least : HEADER ≤ len
  pub most : len ≤ MOST_OCTETS
  pub within : len ≤ length octets
  pub attr-is : attr_of h octets ≡ attr
  pub len-is : h.length ≡ len

whole_by : (octets : List ℕ) (attr : Attr) (len : ℕ) → Seen stream octets (front_of octets) → front_of octets ≡ Whole attr len → IsWhole octets attr len
whole_by octets attr len (Short short is) e = absurd cc
whole_by octets attr len (Torn fault long err is) e = absurd cc
whole_by octets attr len (Waits h long ok short is) e = absurd cc
whole_by octets attr len (Full h long ok all is) e =
    let w = laws.valued_whole h.length (Ok (attr_of h octets)) attr len (sym is ∙ e) in
    let g = stream_good octets h ok in
    let same : Ok (attr_of h octets) ≡ Ok attr = w.1 in
    record { h = h; good = ok; least = omega (arith, g.least, w.0); most = omega (arith, g.within, w.0); within = omega (arith, all, w.0); attr-is = cc; len-is = w.0 }

pub whole_is : (octets : List ℕ) (attr : Attr) (len : ℕ) → front_of octets ≡ Whole attr len → IsWhole octets attr len
whole_is octets attr len e = whole_by octets attr len (seen octets) e

more_by : (octets : List ℕ) → Seen stream octets (front_of octets) → front_of octets ≡ More → (length octets < HEADER) ⊎ ((h : Header) × (HEADER ≤ length octets) × (stream_header octets ≡ Ok h) × (length octets < h.length))
more_by octets (Short short is) e = inl short
more_by octets (Torn fault long err is) e = absurd cc
more_by octets (Waits h long ok short is) e = inr (h, long, ok, short)
more_by octets (Full h long ok all is) e = absurd cc

-- What may become anything is shorter than a header, or than its header says.
pub more_is : (octets : List ℕ) → front_of octets ≡ More → (length octets < HEADER) ⊎ ((h : Header) × (HEADER ≤ length octets) × (stream_header octets ≡ Ok h) × (length octets < h.length))
more_is octets e = more_by octets (seen octets) e

-- ---- with other octets after them

-- Nothing may become anything.
pub front_none : front_of [] ≡ More
front_none = front_short [] (omega arith)

-- An attribute has at least the octets of a header, and those that are there.
pub whole_within : (octets : List ℕ) (attr : Attr) (len : ℕ) → front_of octets ≡ Whole attr len → (HEADER ≤ len) × (len ≤ MOST_OCTETS) × (len ≤ length octets)
whole_within octets attr len e = let w = whole_is octets attr len e in (w.least, w.most, w.within)

-- The value of an attribute is the same.
attr_front : (octets rest : List ℕ) (h : Header) → HEADER ≤ h.length → h.length ≤ length octets → attr_of h (octets ++ rest) ≡ attr_of h octets
attr_front octets rest h least enough =
    let behind = drop-append-le 12 octets rest (omega arith) in
    let value : take (h.length - 12) (drop 12 (octets ++ rest)) ≡ take (h.length - 12) (drop 12 octets) =
    ap (λ (o : List ℕ). take (h.length - 12) o) behind ∙ take-append-le (h.length - 12) (drop 12 octets) rest (omega (arith, length-drop 12 octets)) in
    ap (λ (o : List ℕ). record { noskip = h.noskip; vendor = h.vendor; kind = h.kind; value = o }) value

lasting : laws.IsLasting stream
lasting = record {
  some = omega arith;
  header = stream_front;
  least = λ octets h ok. (stream_good octets h ok).least;
  value = λ octets more h ok long all. ap (λ (a : Attr). Ok a) (attr_front octets more h (stream_good octets h ok).least all);
}

-- A fault stays.
pub bad_more : (octets rest : List ℕ) (fault : AttrFault) → front_of octets ≡ Bad fault → front_of (octets ++ rest) ≡ Bad fault
unfolding front_of
bad_more octets rest fault e = laws.bad_more stream lasting octets rest fault e

-- A whole attribute stays.
pub whole_more : (octets rest : List ℕ) (attr : Attr) (len : ℕ) → front_of octets ≡ Whole attr len → front_of (octets ++ rest) ≡ Whole attr len
unfolding front_of
whole_more octets rest attr len e = laws.whole_more stream lasting octets rest attr len e

-- The octets of a whole attribute are a whole attribute by themselves.
pub whole_less : (octets rest : List ℕ) (attr : Attr) (len : ℕ) → front_of (octets ++ rest) ≡ Whole attr len → len ≤ length octets → front_of octets ≡ Whole attr len
whole_less octets rest attr len e enough =
    let w = whole_is (octets ++ rest) attr len e in
    let least = w.least in
    let long : HEADER ≤ length octets = omega arith in
    let good : stream_header octets ≡ Ok w.h = sym (stream_front octets rest long) ∙ w.good in
    let g = stream_good octets w.h good in
    let within : w.h.length ≤ length octets = omega (arith, w.len-is) in
    front_whole octets w.h long good within
    ∙ ap (λ (a : Attr). Whole a w.h.length) (sym (attr_front octets rest w.h g.least within) ∙ w.attr-is) ∙ ap (λ (n : ℕ). Whole attr n) w.len-is
