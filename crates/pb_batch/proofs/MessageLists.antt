-- What is read of the messages of a batch has their form, and what has the form is read; and a
-- fault shows where it is read.
use Rattle.std.proofs.Common.{◌≡◌, ℕ, zero, suc, ◌-◌, ◌+◌, ◌≤◌, ◌<◌, List, [], ◌∷◌, ◌++◌, length, take, drop, Result, Ok, Err, Option, Some, None, ◌⊎◌, inl, inr, refl, sym, ap, subst, ◌∙◌, append_assoc, arith, length-append}
use Rattle.std.specs.Prelude.{All, sum_by}
use Rattle.std.specs.List.{AllByRecursion}
use Rattle.std.proofs.lemmas.Bool.{cases_lt}
use Rattle.std.proofs.lemmas.List.{take-append-drop, drop_at, nil_from_length, length-take-le}
use Rattle.std.proofs.lemmas.List.Elements.{All-from_recursion}
use Rattle.std.proofs.lemmas.List.Sums.{sum_by-cons}
use Rattle.wire_base.specs.Layout.{AreOctets}
use Rattle.wire_base.proofs.Spelled.{AreOctets-rest}
use Rattle.wire_base.specs.FaultTable.{first_shown, unless}
use Rattle.pb_batch.specs.declared.batch.Message.{Message}
use Rattle.pb_batch.specs.declared.fault.PbFault.{PbFault}
use Rattle.pb_batch.specs.Form.{IsMessage, MessageForm, MessagesForm, message_octets}
use Rattle.pb_batch.specs.Faults.{head_rows, value_rows, message_rows, type_in, length_in}
use Rattle.pb_batch.specs.Front.{head_in, value_of, message_of, messages_of, and_others, message_then}
use Rattle.pb_batch.specs.Shown.{MessageFault}
use Rattle.wire_base.proofs.FaultTables.{or_else, first_shown-append, unless_ok}
use Rattle.pb_batch.proofs.Reading.{messages_of-more, messages_of-none, messages_of-fault, value_shows}
use Rattle.pb_batch.proofs.Heads.{HeadIs, head_is, is_head}
use Rattle.pb_batch.proofs.MessageForms.{message_forth}
use Rattle.pb_batch.proofs.MessageBack.{message_back, form_length}

-- ---- lengths

-- Messages have as many octets as they count.
pub forms_length : (ms : List Message) (octets : List ℕ) → MessagesForm ms octets → length octets ≡ sum_by message_octets ms
forms_length [] octets form = ap (λ (o : List ℕ). length o) form
forms_length (m ∷ ms) octets form =
    ap (λ (o : List ℕ). length o) form.2 ∙ length-append form.0 form.1
    ∙ ap (λ (n : ℕ). n + length form.1) (form_length m form.0 form.3) ∙ ap (λ (n : ℕ). message_octets m + n) (forms_length ms form.1 form.4)
    ∙ sym (sum_by-cons message_octets m ms)

-- Their numbers are such as messages may have.
valid_by : (ms : List Message) (octets : List ℕ) → MessagesForm ms octets → AllByRecursion IsMessage ms
valid_by [] octets form = tt
valid_by (m ∷ ms) octets form = (form.3.valid, valid_by ms form.1 form.4)

pub forms_valid : (ms : List Message) (octets : List ℕ) → MessagesForm ms octets → All IsMessage ms
forms_valid ms octets form = All-from_recursion IsMessage ms (valid_by ms octets form)

-- ---- one step

-- Two tables show nothing together only where neither does.
or_none : (first second : Option PbFault) → or_else first second ≡ None → (first ≡ None) × (second ≡ None)
or_none None second e = (refl, e)
or_none (Some f) second e = absurd cc

-- What a step gave that read messages.
then_ok : (o : Option PbFault) (m : Message) (others : Result (List Message) PbFault) (ms : List Message) → message_then o m others ≡ Ok ms → (o ≡ None) × ((ts : List Message) × (others ≡ Ok ts) × (ms ≡ m ∷ ts))
then_ok (Some f) m others ms e = absurd cc
then_ok None m (Err f) ms e = absurd cc
then_ok None m (Ok ts) ms e = (refl, (ts, refl, cc))

-- What a step gave that found a fault.
then_err : (o : Option PbFault) (m : Message) (others : Result (List Message) PbFault) (f : PbFault) → message_then o m others ≡ Err f → (o ≡ Some f) ⊎ ((o ≡ None) × (others ≡ Err f))
then_err (Some g) m others f e = inl cc
then_err None m (Err g) f e = inr (refl, cc)
then_err None m (Ok ts) f e = absurd cc

-- The first message has a form of its own, and the others stand after it.
pub record First (left place : ℕ) (rest : List ℕ) : Type 0 where
  pub form : MessageForm (message_of rest) (take (length_in rest) rest)
  pub head : HeadIs rest

first : (left place : ℕ) (rest : List ℕ) → AreOctets rest → first_shown (message_rows left place rest) ≡ None → First left place rest
first left place rest are none =
    let both = or_none (first_shown (head_rows left place rest)) (first_shown (value_rows (type_in rest) place rest)) (sym (first_shown-append (head_rows left place rest) (value_rows (type_in rest) place rest)) ∙ none) in
    let h = head_is left place rest (head_in rest) (ap (λ (o : Option PbFault). unless o (head_in rest)) both.0) in
    let value : value_of place rest (type_in rest) ≡ Ok (message_of rest) = ap (λ (o : Option PbFault). unless o (message_of rest)) both.1 in
    let all : length_in rest - 0 ≡ length_in rest = omega arith in
    record { form = subst (λ (n : ℕ). MessageForm (message_of rest) (take n rest)) all (message_forth place rest (message_of rest) are h value); head = h }

-- ---- messages

are_rest : (n : ℕ) (rest : List ℕ) → AreOctets rest → AreOctets (drop n rest)
are_rest n rest are = AreOctets-rest rest (take n rest) (drop n rest) (sym (take-append-drop n rest)) are

pub messages_forth : (left place : ℕ) (rest : List ℕ) (ms : List Message) → AreOctets rest → messages_of left place rest ≡ Ok ms → MessagesForm ms rest × (length ms ≤ left)
messages_forth zero place rest ms are ok =
    elim (cases_lt 0 (length rest)) [
      | inl some ↦ let no : Err _ ≡ Ok ms = sym (messages_of-fault 0 place rest _ some refl) ∙ ok in absurd cc
      | inr none ↦
          let empty : length rest ≡ 0 = omega (arith, none) in
          let nil : [] ≡ ms = let same : Ok [] ≡ Ok ms = sym (messages_of-none 0 place rest empty) ∙ ok in cc in
          subst (λ (x : List Message). MessagesForm x rest × (length x ≤ 0)) nil (nil_from_length rest empty, omega arith)
    ]
messages_forth (suc left) place rest ms are ok =
    elim (cases_lt 0 (length rest)) [
      | inl some ↦
          let n : ℕ = length_in rest in
          let t = then_ok (first_shown (message_rows (suc left) place rest)) (message_of rest) (messages_of left (place + n) (drop n rest)) ms (sym (messages_of-more left place rest some) ∙ ok) in
          let f = first (suc left) place rest are t.0 in
          let others = messages_forth left (place + n) (drop n rest) t.1.0 (are_rest n rest are) t.1.1 in
          subst (λ (x : List Message). MessagesForm x rest × (length x ≤ suc left)) (sym t.1.2) ((take n rest, drop n rest, sym (take-append-drop n rest), f.form, others.0), omega (arith, others.1))
      | inr none ↦
          let empty : length rest ≡ 0 = omega (arith, none) in
          let nil : [] ≡ ms = let same : Ok [] ≡ Ok ms = sym (messages_of-none (suc left) place rest empty) ∙ ok in cc in
          subst (λ (x : List Message). MessagesForm x rest × (length x ≤ suc left)) nil (nil_from_length rest empty, omega arith)
    ]

-- The messages that are read of a batch whose octets are all there have their form.
pub batch_forth : (octets : List ℕ) (ms : List Message) → AreOctets octets → messages_of 64 8 (drop 8 octets) ≡ Ok ms → MessagesForm ms (drop 8 octets) × (length ms ≤ 64)
batch_forth octets ms are ok = messages_forth 64 8 (drop 8 octets) ms (are_rest 8 octets are) ok

-- A message in its form before others is read, and then the others.
step_back : (m : Message) (left place : ℕ) (front more : List ℕ) → MessageForm m front → messages_of (suc left) place (front ++ more) ≡ and_others m (messages_of left (place + length front) more)
step_back m left place front more form =
    let rest : List ℕ = front ++ more in
    let found = message_back m front more form in
    let ok = is_head left place rest found.head in
    let value = unless_ok (first_shown (value_rows (type_in rest) place rest)) (message_of rest) m (found.value place) in
    let none = value_shows (suc left) place rest (head_in rest) ok ∙ value.0 in
    messages_of-more left place rest (omega (arith, found.head.long))
    ∙ ap (λ (o : Option PbFault). message_then o (message_of rest) (messages_of left (place + length_in rest) (drop (length_in rest) rest))) none
    ∙ ap (λ (x : Message). and_others x (messages_of left (place + length_in rest) (drop (length_in rest) rest))) value.1
    ∙ ap (λ (n : ℕ). and_others m (messages_of left (place + n) (drop n rest))) found.len
    ∙ ap (λ (o : List ℕ). and_others m (messages_of left (place + length front) o)) (drop_at front more (length front) refl)

pub messages_back : (ms : List Message) (left place : ℕ) (rest : List ℕ) → MessagesForm ms rest → length ms ≤ left → messages_of left place rest ≡ Ok ms
messages_back [] left place rest form few = messages_of-none left place rest (ap (λ (o : List ℕ). length o) form)
messages_back (m ∷ ms) zero place rest form few = absurd (omega (arith, few))
messages_back (m ∷ ms) (suc left) place rest form few =
    ap (λ (o : List ℕ). messages_of (suc left) place o) form.2 ∙ step_back m left place form.0 form.1 form.3
    ∙ ap (λ (r : Result (List Message) PbFault). and_others m r) (messages_back ms left (place + length form.0) form.1 form.4 (omega (arith, few)))

-- ---- faults

-- A fault in the first message.
fault_here : (left place : ℕ) (rest : List ℕ) (f : PbFault) → 0 < length rest → first_shown (message_rows left place rest) ≡ Some f → MessageFault left place rest f
fault_here left place rest f some shows =
    let same_left : left ≡ left - 0 = omega arith in
    let same_place : place ≡ place + 0 = omega arith in
    record {
      before = [];
      front = [];
      more = rest;
      joined = refl;
      messages = refl;
      few = omega arith;
      some = some;
      row = ap (λ (n : ℕ). first_shown (message_rows n (place + 0) rest)) (sym same_left) ∙ ap (λ (n : ℕ). first_shown (message_rows left n rest)) (sym same_place) ∙ shows;
    }

-- A fault after the first message.
fault_later : (m : Message) (left place : ℕ) (front more : List ℕ) (f : PbFault) → MessageForm m front → MessageFault left (place + length front) more f → MessageFault (suc left) place (front ++ more) f
fault_later m left place front more f form later =
    let same_left : left - length later.before ≡ suc left - suc (length later.before) = omega arith in
    let same_place : place + length front + length later.front ≡ place + length (front ++ later.front) = omega (arith, length-append front later.front) in
    record {
      before = m ∷ later.before;
      front = front ++ later.front;
      more = later.more;
      joined = ap (λ (o : List ℕ). front ++ o) later.joined ∙ sym (append_assoc front later.front later.more);
      messages = (front, later.front, refl, form, later.messages);
      few = omega (arith, later.few);
      some = later.some;
      row = ap (λ (n : ℕ). first_shown (message_rows n (place + length (front ++ later.front)) later.more)) (sym same_left) ∙ ap (λ (n : ℕ). first_shown (message_rows (left - length later.before) n later.more)) (sym same_place) ∙ later.row;
    }

no_rest : {A : Type 0} (left place : ℕ) (rest : List ℕ) (f : PbFault) → length rest ≤ 0 → messages_of left place rest ≡ Err f → A
no_rest left place rest f none err = let no : Ok [] ≡ Err f = sym (messages_of-none left place rest (omega (arith, none))) ∙ err in absurd cc

pub faults_forth : (left place : ℕ) (rest : List ℕ) (f : PbFault) → AreOctets rest → messages_of left place rest ≡ Err f → MessageFault left place rest f
faults_forth zero place rest f are err =
    elim (cases_lt 0 (length rest)) [
      | inl some ↦ let same : Err _ ≡ Err f = sym (messages_of-fault 0 place rest _ some refl) ∙ err in fault_here 0 place rest f some cc
      | inr none ↦ no_rest zero place rest f none err
    ]
faults_forth (suc left) place rest f are err =
    elim (cases_lt 0 (length rest)) [
      | inl some ↦
          let n : ℕ = length_in rest in
          elim (then_err (first_shown (message_rows (suc left) place rest)) (message_of rest) (messages_of left (place + n) (drop n rest)) f (sym (messages_of-more left place rest some) ∙ err)) [
            | inl shows ↦ fault_here (suc left) place rest f some shows
            | inr later ↦
                let it = first (suc left) place rest are later.0 in
                let len : length (take n rest) ≡ n = length-take-le n rest it.head.within in
                let behind : MessageFault left (place + n) (drop n rest) f = faults_forth left (place + n) (drop n rest) f (are_rest n rest are) later.1 in
                let placed : MessageFault left (place + length (take n rest)) (drop n rest) f = subst (λ (k : ℕ). MessageFault left (place + k) (drop n rest) f) (sym len) behind in
                subst (λ (o : List ℕ). MessageFault (suc left) place o f) (take-append-drop n rest) (fault_later (message_of rest) left place (take n rest) (drop n rest) f it.form placed)
          ]
      | inr none ↦ no_rest (suc left) place rest f none err
    ]

faults_back_by : (before : List Message) (left place : ℕ) (front more : List ℕ) (f : PbFault) → MessagesForm before front → length before ≤ left → 0 < length more
    → first_shown (message_rows (left - length before) (place + length front) more) ≡ Some f → messages_of left place (front ++ more) ≡ Err f
faults_back_by [] left place front more f form few some row =
    let same_left : left - 0 ≡ left = omega arith in
    let same_place : place + length front ≡ place = omega (arith, ap (λ (o : List ℕ). length o) form) in
    let shows : first_shown (message_rows left place more) ≡ Some f = ap (λ (n : ℕ). first_shown (message_rows left n more)) (sym same_place) ∙ ap (λ (n : ℕ). first_shown (message_rows n (place + length front) more)) (sym same_left) ∙ row in
    ap (λ (o : List ℕ). messages_of left place (o ++ more)) form ∙ messages_of-fault left place more f some shows
faults_back_by (m ∷ before) zero place front more f form few some row = absurd (omega (arith, few))
faults_back_by (m ∷ before) (suc left) place front more f form few some row =
    let same_left : suc left - suc (length before) ≡ left - length before = omega arith in
    let same_place : place + length front ≡ place + length form.0 + length form.1 = omega (arith, ap (λ (o : List ℕ). length o) form.2, length-append form.0 form.1) in
    let shows = ap (λ (n : ℕ). first_shown (message_rows (left - length before) n more)) (sym same_place) ∙ ap (λ (n : ℕ). first_shown (message_rows n (place + length front) more)) (sym same_left) ∙ row in
    let later = faults_back_by before left (place + length form.0) form.1 more f form.4 (omega (arith, few)) some shows in
    ap (λ (o : List ℕ). messages_of (suc left) place o) (ap (λ (o : List ℕ). o ++ more) form.2 ∙ append_assoc form.0 form.1 more)
    ∙ step_back m left place form.0 (form.1 ++ more) form.3 ∙ ap (λ (r : Result (List Message) PbFault). and_others m r) later

pub faults_back : (left place : ℕ) (rest : List ℕ) (f : PbFault) → MessageFault left place rest f → messages_of left place rest ≡ Err f
faults_back left place rest f fault =
    ap (λ (o : List ℕ). messages_of left place o) fault.joined ∙ faults_back_by fault.before left place fault.front fault.more f fault.messages fault.few fault.some fault.row
