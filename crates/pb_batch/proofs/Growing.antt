-- A feed takes a piece up to the header, and then up to the end of the batch: what it finds is what
-- the joined octets begin with.
use Rattle.std.proofs.Common.{◌≡◌, ℕ, ◌-◌, ◌+◌, ◌≤◌, ◌<◌, Bool, true, false, cond, ltb, List, ◌++◌, length, take, drop, slice_range, Option, Some, None, Result, Ok, Err, refl, sym, ap, ◌∙◌, inl, inr, append_assoc, arith, length-append, length-drop, length-take}
use Rattle.std.proofs.lemmas.Bool.{cases_lt, ltb-true, ltb-false}
use Rattle.std.proofs.lemmas.List.{take_all, take_at, take-append-drop, take-append-le, drop-append-le, drop-drop}
use Rattle.wire_base.specs.Feeding.{More, Bad, Whole}
use Rattle.pb_batch.specs.declared.batch.Message.{Message}
use Rattle.wire_base.specs.declared.layout.field_refused.Refused.{Refused}
use Rattle.wire_base.specs.declared.layout.field_refused.Refused.TheVariants as refused
use Rattle.pb_batch.specs.declared.fault.PbFault.{PbFault}
use Rattle.pb_batch.specs.declared.batch.Batch.{Batch}
use Rattle.pb_batch.specs.declared.batch_header.Header.{Header}
use Rattle.pb_batch.specs.Feeding.{Filled, Grows}
use Rattle.pb_batch.specs.Form.{MessagesForm}
use Rattle.pb_batch.specs.Front.{batches, front_of, header_of, header_seen, messages_of, when_there}
use Rattle.pb_batch.specs.Gives.{Gives}
use Rattle.pb_batch.specs.Written.{IsBatch}
use Rattle.wire_base.proofs.Fronts.{Seen, Short, Torn, Waits, Full}
use Rattle.pb_batch.proofs.Fronts.{whole_front, seen, full_not_more, header_more, header_bounds, front_short, front_refused, front_waits, front_full}
use Rattle.pb_batch.proofs.MessageLists.{forms_length, forms_valid}

-- ---- the header of what is held

not_there : (short : Bool) (r : Result Header PbFault) → cond short (Ok None) (when_there r) ≡ Ok None → short ≡ true
not_there true r e = refl
not_there false (Ok h) e = absurd cc
not_there false (Err f) e = absurd cc

-- Not all of it is there.
pub header_unseen : (s : Bool) (octets : List ℕ) → header_seen s octets ≡ Ok None → length octets < 8
header_unseen s octets e = ltb-true (length octets) 8 (not_there (ltb (length octets) 8) (header_of s octets) e)

there : (short : Bool) (r : Result Header PbFault) (h : Header) → cond short (Ok None) (when_there r) ≡ Ok (Some h) → (short ≡ false) × (r ≡ Ok h)
there true r h e = absurd cc
there false (Ok g) h e = (refl, cc)
there false (Err f) h e = absurd cc

-- All of it is there.
pub header_is_seen : (s : Bool) (octets : List ℕ) (h : Header) → header_seen s octets ≡ Ok (Some h) → (8 ≤ length octets) × (header_of s octets ≡ Ok h)
header_is_seen s octets h e = let t = there (ltb (length octets) 8) (header_of s octets) h e in (ltb-false (length octets) 8 t.0, t.1)

refused_there : (short : Bool) (r : Result Header PbFault) (f : PbFault) → cond short (Ok None) (when_there r) ≡ Err f → (short ≡ false) × (r ≡ Err f)
refused_there true r f e = absurd cc
refused_there false (Ok h) f e = absurd cc
refused_there false (Err g) f e = (refl, cc)

-- It has a fault.
pub header_is_refused : (s : Bool) (octets : List ℕ) (f : PbFault) → header_seen s octets ≡ Err f → (8 ≤ length octets) × (header_of s octets ≡ Err f)
header_is_refused s octets f e = let t = refused_there (ltb (length octets) 8) (header_of s octets) f e in (ltb-false (length octets) 8 t.0, t.1)

-- ---- octets that are put after those that are held

-- What was held is there still.
pub kept_all : (held : List ℕ) → take (length held) held ≡ held
kept_all held = take_all (length held) held (omega arith)

pub kept_filled : {want count : ℕ} {before piece after : List ℕ} → Filled want before piece after count → take (length before) after ≡ before
kept_filled {count = count} {before = before} {piece = piece} filled =
    ap (λ (o : List ℕ). take (length before) o) filled.joined ∙ take_at before (take count piece) (length before) refl

-- How many they are then.
pub filled_length : {want count : ℕ} {before piece after : List ℕ} → Filled want before piece after count → length after ≡ length before + count
filled_length {count = count} {before = before} {piece = piece} filled =
    ap (λ (o : List ℕ). length o) filled.joined ∙ omega (arith, filled.counted, length-append before (take count piece), length-take count piece)

-- What is held, and what is left of the piece, are what was held and the piece.
filled_rest : {want count : ℕ} {before piece after : List ℕ} → Filled want before piece after count → before ++ piece ≡ after ++ drop count piece
filled_rest {count = count} {before = before} {piece = piece} filled =
    ap (λ (o : List ℕ). before ++ o) (sym (take-append-drop count piece)) ∙ sym (append_assoc before (take count piece) (drop count piece)) ∙ ap (λ (o : List ℕ). o ++ drop count piece) (sym filled.joined)

-- Where they are fewer than were asked for, all of the piece is among them.
filled_all : {want count : ℕ} {before piece after : List ℕ} → Filled want before piece after count → length after < want → after ≡ before ++ piece
filled_all {count = count} {before = before} {piece = piece} filled few =
    let len = filled_length filled in
    filled.joined ∙ ap (λ (o : List ℕ). before ++ o) (take_all count piece (omega (arith, filled.counted, len, few)))

-- Octets of which the header is not there.
pub grows_short : {first : ℕ} {held piece after : List ℕ} (s : Bool) → Filled 8 held piece after first → length after < 8 → (front_of s (held ++ piece) ≡ More) × (after ≡ held ++ piece)
grows_short {held = held} {piece = piece} {after = after} s filled few =
    let all = filled_all filled few in
    (front_short s (held ++ piece) (omega (arith, few, ap (λ (o : List ℕ). length o) all)), all)

-- A header that has a fault.
pub grows_refused : {first : ℕ} {held piece after : List ℕ} (s : Bool) (f : PbFault) → Filled 8 held piece after first → 8 ≤ length after → header_of s after ≡ Err f → front_of s (held ++ piece) ≡ Bad f
grows_refused {first = first} {piece = piece} {after = after} s f filled long err =
    let rest : List ℕ = drop first piece in
    ap (λ (o : List ℕ). front_of s o) (filled_rest filled) ∙ front_refused s (after ++ rest) f (omega (arith, long, length-append after rest)) (header_more s after rest long ∙ err)

-- Octets that were held are fewer than the header counts, since they are no batch yet.
torn_short : (s : Bool) (held : List ℕ) (h : Header) → Seen (batches s) held (front_of s held) → front_of s held ≡ More → 8 ≤ length held → header_of s held ≡ Ok h → length held < h.length
torn_short s held h (Short short is) torn long ok = omega (arith, short, long)
torn_short s held h (Torn f l err is) torn long ok = absurd cc
torn_short s held h (Waits g l also short is) torn long ok = let same : Ok g ≡ Ok h = sym also ∙ ok in let one : g ≡ h = cc in omega (arith, short, ap (λ (x : Header). x.length) one)
torn_short s held h (Full g l also all is) torn long ok = full_not_more s g (messages_of 64 8 (slice_range held 8 g.length)) (sym is ∙ torn)

held_short : {first : ℕ} {held piece after : List ℕ} (s : Bool) (h : Header) → front_of s held ≡ More → Filled 8 held piece after first → 8 ≤ length after → header_of s after ≡ Ok h → length held < h.length
held_short {first = first} {held = held} {piece = piece} {after = after} s h torn filled long ok =
    elim (cases_lt (length held) 8) [
      | inl short ↦ let bounds = header_bounds s after h ok in omega (arith, bounds.0, short)
      | inr there ↦
          let ok' = sym (header_more s held (take first piece) there) ∙ ap (λ (o : List ℕ). header_of s o) (sym filled.joined) ∙ ok in
          torn_short s held h (seen s held) torn there ok'
    ]

-- What is held once all of the batch that the piece has of it is taken.
pub record Taken (s : Bool) (held piece after : List ℕ) (h : Header) (used : ℕ) : Type 0 where
  pub ok : header_of s after ≡ Ok h
  pub long : 8 ≤ length after
  pub short : length after ≤ h.length
  pub joined : held ++ piece ≡ after ++ drop used piece
  pub counted : length after ≡ length held + used
  pub within : used ≤ length piece
  pub fewer : length held < h.length
  pub kept : take (length held) after ≡ held

pub taken : {first more : ℕ} {held piece mid after : List ℕ} (s : Bool) (h : Header) → front_of s held ≡ More → Filled 8 held piece mid first → 8 ≤ length mid → header_of s mid ≡ Ok h
    → Filled h.length mid (drop first piece) after more → Taken s held piece after h (first + more)
taken {first = first} {more = more} {held = held} {piece = piece} {mid = mid} {after = after} s h torn begun long ok filled =
    let rest : List ℕ = drop first piece in
    let one = filled_length begun in
    let two = filled_length filled in
    let bounds = header_bounds s mid h ok in
    let fewer = held_short s h torn begun long ok in
    let mid_short : length mid ≤ h.length = omega (arith, one, begun.counted, bounds.0, fewer) in
    record {
      ok = ap (λ (o : List ℕ). header_of s o) filled.joined ∙ header_more s mid (take more rest) long ∙ ok;
      long = omega (arith, long, two);
      short = omega (arith, two, filled.counted, mid_short);
      joined = filled_rest begun ∙ filled_rest filled ∙ ap (λ (o : List ℕ). after ++ o) (drop-drop more first piece);
      counted = omega (arith, one, two);
      within = omega (arith, begun.counted, filled.counted, length-drop first piece);
      fewer = fewer;
      kept = ap (λ (o : List ℕ). take (length held) o) (filled.joined ∙ ap (λ (o : List ℕ). o ++ take more rest) begun.joined ∙ append_assoc held (take first piece) (take more rest))
          ∙ take_at held (take first piece ++ take more rest) (length held) refl;
    }

-- Octets of which the header counts more.
pub grows_waits : {first more : ℕ} {held piece mid after : List ℕ} (s : Bool) (h : Header) → Filled 8 held piece mid first → Filled h.length mid (drop first piece) after more → Taken s held piece after h (first + more)
    → length after < h.length → (front_of s (held ++ piece) ≡ More) × (after ≡ held ++ piece)
grows_waits {first = first} {held = held} {piece = piece} {mid = mid} {after = after} s h begun filled t few =
    let all : after ≡ held ++ piece = filled_all filled few ∙ sym (filled_rest begun) in
    let is = front_waits s after h t.long t.ok few in
    (ap (λ (o : List ℕ). front_of s o) (sym all) ∙ is, all)

-- All octets of the batch are there: it is whole, or has a fault.
whole_taken : {used : ℕ} {held piece after : List ℕ} (s : Bool) (h : Header) → Taken s held piece after h used → h.length ≤ length after → front_of s (held ++ piece) ≡ whole_front s h (messages_of 64 8 (drop 8 after))
whole_taken {used = used} {piece = piece} {after = after} s h t all =
    let octets : List ℕ = after ++ drop used piece in
    let same : slice_range octets 8 h.length ≡ drop 8 after =
    ap (λ (o : List ℕ). take (h.length - 8) o) (drop-append-le 8 after (drop used piece) t.long)
    ∙ take-append-le (h.length - 8) (drop 8 after) (drop used piece) (omega (arith, all, t.long, length-drop 8 after))
    ∙ take_all (h.length - 8) (drop 8 after) (omega (arith, t.short, length-drop 8 after)) in
    ap (λ (o : List ℕ). front_of s o) t.joined
    ∙ front_full s octets h (omega (arith, t.long, length-append after (drop used piece))) (header_more s after (drop used piece) t.long ∙ t.ok) (omega (arith, all, length-append after (drop used piece)))
    ∙ ap (λ (o : List ℕ). whole_front s h (messages_of 64 8 o)) same

pub grows_bad : {used : ℕ} {held piece after : List ℕ} (s : Bool) (h : Header) (e : Refused PbFault) → Taken s held piece after h used → h.length ≤ length after
    → Gives {X = List Message} (λ ms. ms) (Err e) (messages_of 64 8 (drop 8 after)) → Grows s held piece (Err e) after
grows_bad s h (refused.Fault f) t all fails = whole_taken s h t all ∙ ap (λ (r : Result (List Message) PbFault). whole_front s h r) fails
grows_bad s h refused.Memory t all fails = t.kept

-- A batch that is whole can be written.
taken_is_batch : {used : ℕ} {held piece after : List ℕ} (s : Bool) (h : Header) (messages : List Message) → Taken s held piece after h used
    → MessagesForm messages (drop 8 after) → length messages ≤ 64 → IsBatch (record { from_server = s; kind = h.kind; messages = messages })
taken_is_batch {after = after} s h messages t forms few =
    let bounds = header_bounds s after h t.ok in
    record {
      valid = forms_valid messages (drop 8 after) forms;
      few = few;
      short = omega (arith, forms_length messages (drop 8 after) forms, length-drop 8 after, t.long, t.short, bounds.1);
    }

pub grows_done : {used : ℕ} {held piece after : List ℕ} (s : Bool) (h : Header) (messages : List Message) → Taken s held piece after h used → h.length ≤ length after
    → messages_of 64 8 (drop 8 after) ≡ Ok messages → MessagesForm messages (drop 8 after) → length messages ≤ 64 → Grows s held piece (Ok (Some (record { from_server = s; kind = h.kind; messages = messages }, used))) after
grows_done {used = used} {held = held} {piece = piece} s h messages t all is forms few =
    let len : h.length ≡ length held + used = omega (arith, all, t.short, t.counted) in (
      whole_taken s h t all ∙ ap (λ (r : Result (List Message) PbFault). whole_front s h r) is ∙ ap (λ (n : ℕ). Whole (record { from_server = s; kind = h.kind; messages = messages }) n) len,
      omega (arith, t.fewer, len),
      t.within,
      taken_is_batch s h messages t forms few,
    )
