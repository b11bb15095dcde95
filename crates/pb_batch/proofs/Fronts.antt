-- What joined octets begin with stays so when more octets come: the laws of
-- `wire_base/proofs/Fronts.antt`, of batches.
use Rattle.std.proofs.Common.{◌≡◌, ℕ, ◌-◌, ◌≤◌, ◌<◌, Bool, ltb, List, [], ◌++◌, length, take, drop, get_or, slice_range, Result, Ok, Err, refl, sym, ap, ◌∙◌, arith, length-drop}
use Rattle.std.proofs.lemmas.Bool.{or_parts, ltb-false}
use Rattle.std.proofs.lemmas.List.{get_or-take, take-append-le, drop-append-le, take-take, drop-take}
use Rattle.wire_base.specs.FaultTable.{first_shown}
use Rattle.wire_base.specs.Feeding.{More, Bad, Whole, valued}
use Rattle.pb_batch.specs.declared.batch.Batch.{Batch}
use Rattle.pb_batch.specs.declared.batch.Message.{Message}
use Rattle.pb_batch.specs.declared.fault.PbFault.{PbFault}
use Rattle.pb_batch.specs.declared.batch_header.Header.{Header}
use Rattle.pb_batch.specs.Faults.{header_rows, batch_length}
use Rattle.pb_batch.specs.Front.{Front, batch_of, batches, front_of, header_in, header_of, messages_of}
use Rattle.wire_base.proofs.FaultTables.{unless_ok, none_show}
use Rattle.wire_base.proofs.Fronts as laws

-- ---- the header

-- The header is that of the first 8 octets.
header_front : (s : Bool) (octets : List ℕ) → header_of s (take 8 octets) ≡ header_of s octets
header_front s octets =
    let version : get_or (take 8 octets) 0 0 ≡ get_or octets 0 0 = get_or-take 8 octets 0 0 (omega arith) in
    let flags : get_or (take 8 octets) 1 0 ≡ get_or octets 1 0 = get_or-take 8 octets 1 0 (omega arith) in
    let type : get_or (take 8 octets) 3 0 ≡ get_or octets 3 0 = get_or-take 8 octets 3 0 (omega arith) in
    let len : take 4 (drop 4 (take 8 octets)) ≡ take 4 (drop 4 octets) = ap (λ (o : List ℕ). take 4 o) (drop-take 4 4 octets) ∙ take-take 4 4 (drop 4 octets) (omega arith) in
    rw (version, flags, type, len) refl

-- More octets leave the header as it is.
pub header_more : (s : Bool) (xs ys : List ℕ) → 8 ≤ length xs → header_of s (xs ++ ys) ≡ header_of s xs
header_more s xs ys long = sym (header_front s (xs ++ ys)) ∙ ap (λ (o : List ℕ). header_of s o) (take-append-le 8 xs ys long) ∙ header_front s xs

-- The length in a header without a fault.
pub header_bounds : (s : Bool) (octets : List ℕ) (h : Header) → header_of s octets ≡ Ok h → (8 ≤ h.length) × (h.length ≤ 16777216)
header_bounds s octets h ok =
    let len : ℕ = batch_length octets in
    let o = unless_ok (first_shown (header_rows s octets)) (header_in octets) h ok in
    let none = none_show (header_rows s octets) o.0 in
    let p = or_parts (ltb len 8) (ltb 16777216 len) none.1.1.1.0 in
    let is : len ≡ h.length = ap (λ (x : Header). x.length) o.1 in
    (omega (arith, ltb-false len 8 p.0, is), omega (arith, ltb-false 16777216 len p.1, is))

-- ---- batches

-- All octets of a batch with its messages, or their fault.
abbrev pub whole_front : Bool → Header → Result (List Message) PbFault → Front
whole_front s h read = valued h.length (batch_of s h read)

-- The messages' octets of a batch that is there stay as they are.
slice_more : (xs ys : List ℕ) (n : ℕ) → n ≤ length xs → 8 ≤ length xs → slice_range (xs ++ ys) 8 n ≡ slice_range xs 8 n
slice_more xs ys n all long = rw (drop-append-le 8 xs ys long) (take-append-le (n - 8) (drop 8 xs) ys (omega (arith, length-drop 8 xs)))

lasting : (s : Bool) → laws.IsLasting (batches s)
lasting s = record {
  some = omega arith;
  header = header_more s;
  least = λ octets h ok. (header_bounds s octets h ok).0;
  value = λ octets more h ok long all. ap (λ (o : List ℕ). batch_of s h (messages_of 64 8 o)) (slice_more octets more h.length all long);
}

-- What joined octets begin with, by how much of the batch is there.
pub seen : (s : Bool) (octets : List ℕ) → laws.Seen (batches s) octets (front_of s octets)
unfolding front_of
seen s octets = laws.seen (batches s) octets

pub front_short : (s : Bool) (octets : List ℕ) → length octets < 8 → front_of s octets ≡ More
unfolding front_of
front_short s octets short = laws.short_front (batches s) octets short

pub front_refused : (s : Bool) (octets : List ℕ) (f : PbFault) → 8 ≤ length octets → header_of s octets ≡ Err f → front_of s octets ≡ Bad f
unfolding front_of
front_refused s octets f long err = laws.torn_front (batches s) octets f long err

pub front_waits : (s : Bool) (octets : List ℕ) (h : Header) → 8 ≤ length octets → header_of s octets ≡ Ok h → length octets < h.length → front_of s octets ≡ More
unfolding front_of
front_waits s octets h long ok short = laws.waiting_front (batches s) octets h long ok short

pub front_full : (s : Bool) (octets : List ℕ) (h : Header) → 8 ≤ length octets → header_of s octets ≡ Ok h → h.length ≤ length octets → front_of s octets ≡ whole_front s h (messages_of 64 8 (slice_range octets 8 h.length))
unfolding front_of
front_full s octets h long ok all = laws.full_front (batches s) octets h long ok all

-- A batch that is whole has its length from the header, and its messages from the octets.
pub record WholeOf (s : Bool) (h : Header) (read : Result (List Message) PbFault) (b : Batch) (n : ℕ) : Type 0 where
  pub octets : h.length ≡ n
  pub messages : read ≡ Ok b.messages
  pub kind : h.kind ≡ b.kind
  pub from_server : s ≡ b.from_server

pub whole_of : (s : Bool) (h : Header) (read : Result (List Message) PbFault) (b : Batch) (n : ℕ) → whole_front s h read ≡ Whole b n → WholeOf s h read b n
whole_of s h (Err f) b n e = absurd cc
whole_of s h (Ok ms) b n e =
    let made : Batch = record { from_server = s; kind = h.kind; messages = ms } in
    let same : made ≡ b = cc in
    record {
      octets = cc;
      messages = ap (λ (x : Batch). Ok x.messages) same;
      kind = ap (λ (x : Batch). x.kind) same;
      from_server = ap (λ (x : Batch). x.from_server) same;
    }

-- All octets of a batch make a batch or a fault.
pub full_not_more : {A : Type 0} (s : Bool) (h : Header) (read : Result (List Message) PbFault) → whole_front s h read ≡ More → A
full_not_more s h read e = laws.valued_not_more h.length (batch_of s h read) e

-- ---- the laws

-- No octet is no batch yet.
pub front_none : (s : Bool) → front_of s [] ≡ More
front_none s = front_short s [] (omega arith)

-- A batch that is whole stays so.
pub whole_more : (s : Bool) (xs ys : List ℕ) (b : Batch) (n : ℕ) → front_of s xs ≡ Whole b n → front_of s (xs ++ ys) ≡ Whole b n
unfolding front_of
whole_more s xs ys b n e = laws.whole_more (batches s) (lasting s) xs ys b n e

-- A fault that shows goes on to show.
pub bad_more : (s : Bool) (xs ys : List ℕ) (f : PbFault) → front_of s xs ≡ Bad f → front_of s (xs ++ ys) ≡ Bad f
unfolding front_of
bad_more s xs ys f e = laws.bad_more (batches s) (lasting s) xs ys f e

-- A whole batch has octets, and no more than are there.
pub whole_within : (s : Bool) (xs : List ℕ) (b : Batch) (n : ℕ) → front_of s xs ≡ Whole b n → (0 < n) × (n ≤ length xs)
unfolding front_of
whole_within s xs b n e = let w = laws.whole_within (batches s) (lasting s) xs b n e in (omega (arith, w.0), w.1)

-- A batch that more octets make whole is longer than the octets before them, which were no batch
-- yet.
pub whole_longer : (s : Bool) (xs ys : List ℕ) (b : Batch) (n : ℕ) → front_of s xs ≡ More → front_of s (xs ++ ys) ≡ Whole b n → length xs < n
unfolding front_of
whole_longer s xs ys b n more whole = laws.whole_longer (batches s) (lasting s) xs ys b n more whole

-- Octets that are no batch yet are fewer than a batch may have.
pub more_short : (s : Bool) (xs : List ℕ) → front_of s xs ≡ More → length xs < 16777216
unfolding front_of
more_short s xs more = laws.more_below (batches s) (lasting s) 16777216 (omega arith) (λ octets h ok. (header_bounds s octets h ok).1) xs more
