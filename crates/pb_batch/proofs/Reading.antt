-- Messages that a loop reads one after another are those that `messages_of` reads.
use Rattle.std.proofs.Common.{◌≡◌, ℕ, zero, suc, ◌-◌, ◌+◌, ◌<◌, List, [], ◌∷◌, ◌++◌, length, drop, Option, Some, Result, Ok, Err, refl, sym, ap, ◌∙◌, append_assoc, arith}
use Rattle.std.proofs.lemmas.List.{append-nil, drop-drop, length_push}
use Rattle.std.proofs.lemmas.Bool.{ne_eqb}
use Rattle.wire_base.specs.FaultTable.{first_shown}
use Rattle.pb_batch.specs.declared.batch.Message.{Message}
use Rattle.wire_base.specs.declared.layout.field_refused.Refused.{Refused}
use Rattle.wire_base.specs.declared.layout.field_refused.Refused.TheVariants as refused
use Rattle.pb_batch.specs.declared.fault.PbFault.{PbFault}
use Rattle.pb_batch.specs.declared.message_head.MessageHead.{MessageHead}
use Rattle.pb_batch.specs.Faults.{head_rows, value_rows, message_rows, type_in, length_in}
use Rattle.pb_batch.specs.Front.{head_in, head_of, value_of, message_of, messages_of, and_others, message_then}
use Rattle.pb_batch.specs.Gives.{Gives}
use Rattle.wire_base.proofs.FaultTables.{or_else, first_shown-append, unless_ok, unless_err}

-- ---- one more message

-- What was read before, and what is still read.
abbrev pub with_front : List Message → Result (List Message) PbFault → Result (List Message) PbFault
with_front front (Ok read) = Ok (front ++ read)
with_front front (Err f) = Err f

-- Before the loop nothing was read.
pub begun : (read : Result (List Message) PbFault) → with_front [] read ≡ read
begun (Ok read) = refl
begun (Err f) = refl

-- The first of what is still read goes to the end of what was read before.
regroup : (front : List Message) (m : Message) (read : Result (List Message) PbFault) → with_front front (and_others m read) ≡ with_front (front ++ m ∷ []) read
regroup front m (Ok read) = ap (λ (ms : List Message). Ok ms) (sym (append_assoc front (m ∷ []) read))
regroup front m (Err f) = refl

-- Where octets are left, what is read is the first message and those after it.
pub messages_of-more : (left place : ℕ) (rest : List ℕ) → 0 < length rest
    → messages_of (suc left) place rest ≡ message_then (first_shown (message_rows (suc left) place rest)) (message_of rest) (messages_of left (place + length_in rest) (drop (length_in rest) rest))
unfolding messages_of
messages_of-more left place rest some = rw (ne_eqb (length rest) 0 (λ e. omega (arith, e))) refl

-- Where no octet is left, nothing is read.
pub messages_of-none : (left place : ℕ) (rest : List ℕ) → length rest ≡ 0 → messages_of left place rest ≡ Ok []
unfolding messages_of
messages_of-none zero place rest none = rw none refl
messages_of-none (suc left) place rest none = rw none refl

-- A fault in the first message is the fault of all.
pub messages_of-fault : (left place : ℕ) (rest : List ℕ) (f : PbFault) → 0 < length rest → first_shown (message_rows left place rest) ≡ Some f → messages_of left place rest ≡ Err f
unfolding messages_of
messages_of-fault zero place rest f some shows = rw (ne_eqb (length rest) 0 (λ e. omega (arith, e))) (ap (λ (o : Option PbFault). message_then o (message_of rest) (Ok [])) shows)
messages_of-fault (suc left) place rest f some shows = messages_of-more left place rest some ∙ ap (λ (o : Option PbFault). message_then o (message_of rest) (messages_of left (place + length_in rest) (drop (length_in rest) rest))) shows

-- A fault in the head of the first message.
pub head_stops : (front : List Message) (left place : ℕ) (rest : List ℕ) (f : PbFault) (total : Result (List Message) PbFault) → 0 < length rest → head_of left place rest ≡ Err f
    → with_front front (messages_of left place rest) ≡ total → total ≡ Err f
head_stops front left place rest f total some err so_far =
    let head = unless_err (first_shown (head_rows left place rest)) (head_in rest) f err in
    let shows = first_shown-append (head_rows left place rest) (value_rows (type_in rest) place rest) ∙ ap (λ (o : Option PbFault). or_else o (first_shown (value_rows (type_in rest) place rest))) head in
    sym so_far ∙ ap (λ (r : Result (List Message) PbFault). with_front front r) (messages_of-fault left place rest f some shows)

-- What shows in a message whose head has no fault is what shows in its value.
pub value_shows : (left place : ℕ) (rest : List ℕ) (head : MessageHead) → head_of left place rest ≡ Ok head → first_shown (message_rows left place rest) ≡ first_shown (value_rows (type_in rest) place rest)
value_shows left place rest head ok =
    let none = unless_ok (first_shown (head_rows left place rest)) (head_in rest) head ok in
    first_shown-append (head_rows left place rest) (value_rows (type_in rest) place rest) ∙ ap (λ (o : Option PbFault). or_else o (first_shown (value_rows (type_in rest) place rest))) none.0

-- A fault in the value of the first message.
value_stops : (front : List Message) (left place : ℕ) (rest : List ℕ) (head : MessageHead) (f : PbFault) (total : Result (List Message) PbFault) → 0 < length rest → head_of left place rest ≡ Ok head
    → value_of place rest (type_in rest) ≡ Err f → with_front front (messages_of left place rest) ≡ total → total ≡ Err f
value_stops front left place rest head f total some ok err so_far =
    let value = unless_err (first_shown (value_rows (type_in rest) place rest)) (message_of rest) f err in
    sym so_far ∙ ap (λ (r : Result (List Message) PbFault). with_front front r) (messages_of-fault left place rest f some (value_shows left place rest head ok ∙ value))

pub stops : (front : List Message) (left place : ℕ) (rest : List ℕ) (head : MessageHead) (e : Refused PbFault) (total : Result (List Message) PbFault) → 0 < length rest → head_of left place rest ≡ Ok head
    → Gives {X = Message} (λ m. m) (Err e) (value_of place rest (type_in rest)) → with_front front (messages_of left place rest) ≡ total → Gives {X = List Message} (λ ms. ms) (Err e) total
stops front left place rest head (refused.Fault f) total some ok fails so_far = value_stops front left place rest head f total some ok fails so_far
stops front left place rest head refused.Memory total some ok fails so_far = tt

-- A head has no fault only where one more message may come.
pub some_left : (left place : ℕ) (rest : List ℕ) (head : MessageHead) → head_of left place rest ≡ Ok head → 0 < left
some_left zero place rest head ok = absurd cc
some_left (suc left) place rest head ok = omega arith

-- A message without a fault goes to the end of those that were read.
one_more : (front : List Message) (left place : ℕ) (rest : List ℕ) (head : MessageHead) (m : Message) (total : Result (List Message) PbFault) → 0 < length rest → head_of (suc left) place rest ≡ Ok head
    → value_of place rest (type_in rest) ≡ Ok m → with_front front (messages_of (suc left) place rest) ≡ total
    → with_front (front ++ m ∷ []) (messages_of left (place + length_in rest) (drop (length_in rest) rest)) ≡ total
one_more front left place rest head m total some ok is so_far =
    let others : Result (List Message) PbFault = messages_of left (place + length_in rest) (drop (length_in rest) rest) in
    let value = unless_ok (first_shown (value_rows (type_in rest) place rest)) (message_of rest) m is in
    let read : messages_of (suc left) place rest ≡ and_others m others =
    messages_of-more left place rest some ∙ ap (λ (o : Option PbFault). message_then o (message_of rest) others) (value_shows (suc left) place rest head ok ∙ value.0)
    ∙ ap (λ (x : Message). and_others x others) value.1 in
    sym (regroup front m others) ∙ sym (ap (λ (r : Result (List Message) PbFault). with_front front r) read) ∙ so_far

more : (front : List Message) (left place : ℕ) (rest : List ℕ) (head : MessageHead) (m : Message) (total : Result (List Message) PbFault) → 0 < length rest → head_of left place rest ≡ Ok head
    → value_of place rest (type_in rest) ≡ Ok m → with_front front (messages_of left place rest) ≡ total
    → with_front (front ++ m ∷ []) (messages_of (left - 1) (place + length_in rest) (drop (length_in rest) rest)) ≡ total
more front zero place rest head m total some ok is so_far = absurd (omega (arith, some_left 0 place rest head ok))
more front (suc left) place rest head m total some ok is so_far =
    let less : suc left - 1 ≡ left = omega arith in
    rw less (one_more front left place rest head m total some ok is so_far)

-- The same of what is left of a batch from a place on, where that many in all may be read.
pub more_of : (most : ℕ) (front after : List Message) (place : ℕ) (octets : List ℕ) (head : MessageHead) (m : Message) (total : Result (List Message) PbFault)
    → 0 < length (drop place octets) → head_of (most - length front) place (drop place octets) ≡ Ok head → head ≡ head_in (drop place octets) → value_of place (drop place octets) (type_in (drop place octets)) ≡ Ok m
    → after ≡ front ++ m ∷ [] → with_front front (messages_of (most - length front) place (drop place octets)) ≡ total
    → with_front after (messages_of (most - length after) (place + head.length) (drop (place + head.length) octets)) ≡ total
more_of most front after place octets head m total some ok fields is pushed so_far =
    let rest : List ℕ = drop place octets in
    let count : most - length after ≡ most - length front - 1 = rw pushed (omega (arith, length_push front m)) in
    let len : head.length ≡ length_in rest = ap (λ (h : MessageHead). h.length) fields in
    let behind : drop (place + length_in rest) octets ≡ drop (length_in rest) rest = sym (drop-drop (length_in rest) place octets) in
    rw (count, pushed, len, behind) (more front (most - length front) place rest head m total some ok is so_far)

-- Where nothing is left, those that were read are all.
pub all_read : (front : List Message) (left place : ℕ) (rest : List ℕ) (total : Result (List Message) PbFault) → length rest ≡ 0 → with_front front (messages_of left place rest) ≡ total → total ≡ Ok front
all_read front left place rest total none so_far =
    sym so_far ∙ ap (λ (r : Result (List Message) PbFault). with_front front r) (messages_of-none left place rest none) ∙ ap (λ (ms : List Message). Ok ms) (append-nil front)
