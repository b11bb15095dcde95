-- What the tables of faults and the layout mean for octets that are handed to a feed.
use Rattle.std.proofs.Common.{◌≡◌, ℕ, ◌≤◌, Bool, true, false, cond, IsTrue, List, [], ◌∷◌, ◌++◌, length, slice_range, get_or, Option, Some, Result, Ok, Err, ◌⊎◌, inl, inr, refl, sym, ap, subst, ◌∙◌, arith, length-append}
use Rattle.std.proofs.lemmas.List.{append-nil, nil_from_length}
use Rattle.wire_base.specs.Layout.{AreOctets, is_set}
use Rattle.wire_base.specs.FaultTable.{first_shown, unless}
use Rattle.wire_base.specs.Feeding.{More, Bad, Whole}
use Rattle.pb_batch.specs.declared.batch.Batch.{Batch}
use Rattle.pb_batch.specs.declared.batch.Message.{Message}
use Rattle.pb_batch.specs.declared.fault.PbFault.{PbFault}
use Rattle.pb_batch.specs.declared.batch_header.Header.{Header}
use Rattle.pb_batch.specs.declared.kind.MessageType.{MessageType}
use Rattle.pb_batch.specs.declared.kind.MessageType.TheVariants as type
use Rattle.pb_batch.specs.Form.{FLAG, MessagesForm}
use Rattle.pb_batch.specs.Faults.{header_rows, message_rows, head_rows, value_rows, type_in, batch_length}
use Rattle.pb_batch.specs.Front.{batches, Front, front_of, header_in, header_of, messages_of}
use Rattle.pb_batch.specs.Shown.{Begins, MessageFault, ShowsFault, WholeIsForm, BadIsFault, AreOneOfThree, FrontsStay, LengthsCount, NoneBeginsAnother, LowestCounts, WrittenIsRead, place_of}
use Rattle.pb_batch.specs.Written.{IsBatch, written}
use Rattle.wire_base.proofs.FaultTables.{AreRising, first_is_lowest, unless_ok, unless_err}
use Rattle.wire_base.proofs.Fronts.{Seen, Short, Torn, Waits, Full}
use Rattle.pb_batch.proofs.Fronts.{whole_front, seen, whole_more, bad_more, whole_longer, front_refused, front_full}
use Rattle.pb_batch.proofs.Fields.{AreOctets-between}
use Rattle.pb_batch.proofs.MessageBack.{form_length}
use Rattle.pb_batch.proofs.MessageLists.{faults_forth, faults_back, forms_valid}
use Rattle.pb_batch.proofs.BatchForms.{whole_forth, whole_back, begins_back, form_octets, form_direction}
use Rattle.pb_batch.proofs.WrittenForms.{written_form}

-- ---- batches

pub whole_is_form : WholeIsForm
whole_is_form s octets b n are = (λ found. whole_forth s octets b n are found, λ begins. begins_back s octets b n begins)

-- ---- faults

-- All octets of the batch are there, and a fault was found in its messages.
full_bad : (s : Bool) (h : Header) (read : Result (List Message) PbFault) (f : PbFault) → whole_front s h read ≡ Bad f → read ≡ Err f
full_bad s h (Ok ms) f e = absurd cc
full_bad s h (Err g) f e = let same : g ≡ f = cc in ap (λ (x : PbFault). Err x) same

bad_forth_by : (s : Bool) (octets : List ℕ) (f : PbFault) → AreOctets octets → Seen (batches s) octets (front_of s octets) → front_of s octets ≡ Bad f → ShowsFault s octets f
bad_forth_by s octets f are (Short short is) e = absurd cc
bad_forth_by s octets f are (Waits h long ok short is) e = absurd cc
bad_forth_by s octets f are (Torn g long err is) e =
    let same : Bad g ≡ Bad f = sym is ∙ e in
    let one : g ≡ f = cc in
    inl (record { long = long; row = unless_err (first_shown (header_rows s octets)) (header_in octets) g err ∙ ap (λ (x : PbFault). Some x) one })
bad_forth_by s octets f are (Full h long ok all is) e =
    let o = unless_ok (first_shown (header_rows s octets)) (header_in octets) h ok in
    let count : batch_length octets ≡ h.length = ap (λ (x : Header). x.length) o.1 in
    let read : messages_of 64 8 (slice_range octets 8 h.length) ≡ Err f = full_bad s h (messages_of 64 8 (slice_range octets 8 h.length)) f (sym is ∙ e) in
    let fault = faults_forth 64 8 (slice_range octets 8 h.length) f (AreOctets-between octets 8 h.length are) read in
    inr (record {
      long = long;
      good = o.0;
      there = omega (arith, count, all);
      fault = subst (λ (n : ℕ). MessageFault 64 8 (slice_range octets 8 n) f) (sym count) fault;
    })

bad_back_by : (s : Bool) (octets : List ℕ) (f : PbFault) → ShowsFault s octets f → front_of s octets ≡ Bad f
bad_back_by s octets f shows =
    elim shows [
      | inl head ↦ front_refused s octets f head.long (ap (λ (o : Option PbFault). unless o (header_in octets)) head.row)
      | inr body ↦
          let h : Header = header_in octets in
          let ok : header_of s octets ≡ Ok h = ap (λ (o : Option PbFault). unless o h) body.good in
          front_full s octets h body.long ok body.there ∙ ap (λ (r : Result (List Message) PbFault). whole_front s h r) (faults_back 64 8 (slice_range octets 8 (batch_length octets)) f body.fault)
    ]

pub bad_is_fault : BadIsFault
bad_is_fault s octets f are = (λ found. bad_forth_by s octets f are (seen s octets) found, λ shows. bad_back_by s octets f shows)

-- ---- exactly one of three

one_batch : (s : Bool) (octets : List ℕ) (b c : Batch) (m n : ℕ) → Begins s octets b m → Begins s octets c n → (b ≡ c) × (m ≡ n)
one_batch s octets b c m n first second =
    let same : Whole b m ≡ Whole c n = sym (begins_back s octets b m first) ∙ begins_back s octets c n second in
    (cc, cc)

one_fault : (s : Bool) (octets : List ℕ) (f g : PbFault) → ShowsFault s octets f → ShowsFault s octets g → f ≡ g
one_fault s octets f g first second =
    let same : Bad f ≡ Bad g = sym (bad_back_by s octets f first) ∙ bad_back_by s octets g second in
    cc

not_both : (s : Bool) (octets : List ℕ) (b : Batch) (n : ℕ) (f : PbFault) → Begins s octets b n → ShowsFault s octets f → ⊥
not_both s octets b n f begins shows =
    let same : Whole b n ≡ Bad f = sym (begins_back s octets b n begins) ∙ bad_back_by s octets f shows in
    absurd cc

-- Where neither is found, there is no batch yet.
more_by : (s : Bool) (octets : List ℕ) (front : Front) → AreOctets octets → front_of s octets ≡ front → ((b : Batch) (n : ℕ) → Begins s octets b n → ⊥) → ((f : PbFault) → ShowsFault s octets f → ⊥) → front_of s octets ≡ More
more_by s octets More are is no_batch no_fault = is
more_by s octets (Bad f) are is no_batch no_fault = absurd (no_fault f ((bad_is_fault s octets f are).0 is))
more_by s octets (Whole b n) are is no_batch no_fault = absurd (no_batch b n (whole_forth s octets b n are is))

more_no_batch : (s : Bool) (octets : List ℕ) (b : Batch) (n : ℕ) → front_of s octets ≡ More → Begins s octets b n → ⊥
more_no_batch s octets b n more begins =
    let same : Whole b n ≡ More = sym (begins_back s octets b n begins) ∙ more in
    absurd cc

more_no_fault : (s : Bool) (octets : List ℕ) (f : PbFault) → front_of s octets ≡ More → ShowsFault s octets f → ⊥
more_no_fault s octets f more shows =
    let same : Bad f ≡ More = sym (bad_back_by s octets f shows) ∙ more in
    absurd cc

pub are_one_of_three : AreOneOfThree
are_one_of_three s octets are = record {
  one_batch = one_batch s octets;
  one_fault = one_fault s octets;
  not_both = not_both s octets;
  neither = (λ more. (λ b n begins. more_no_batch s octets b n more begins, λ f shows. more_no_fault s octets f more shows), λ no. more_by s octets (front_of s octets) are refl no.0 no.1);
}

-- ---- lengths

pub lengths_count : LengthsCount
lengths_count = record { batch = form_octets; message = form_length }

-- ---- no batch begins another

pub none_begins_another : NoneBeginsAnother
none_begins_another b c octets more first second =
    let all : List ℕ = octets ++ more in
    let direction : b.from_server ≡ c.from_server =
    sym (form_direction b octets more first) ∙ ap (λ (o : List ℕ). is_set (get_or o 1 0) FLAG) (sym (append-nil all)) ∙ form_direction c all [] second in
    let same : Whole b (length octets) ≡ Whole c (length all) =
    sym (whole_back b octets more first) ∙ ap (λ (s : Bool). front_of s all) direction ∙ ap (λ (o : List ℕ). front_of c.from_server o) (sym (append-nil all)) ∙ whole_back c all [] second in
    let len : length octets ≡ length all = cc in
    (cc, nil_from_length more (omega (arith, len, length-append octets more)))

-- ---- more octets

pub fronts_stay : FrontsStay
fronts_stay s octets more = record { whole = whole_more s octets more; bad = bad_more s octets more; longer = whole_longer s octets more }

-- ---- the lowest place counts

message_rising : (t : MessageType) (left place : ℕ) (rest : List ℕ) → AreRising place_of place (head_rows left place rest ++ value_rows t place rest)
message_rising type.Pa left place rest = (omega arith, (omega arith, (omega arith, (omega arith, (omega arith, (omega arith, (omega arith, (omega arith, tt))))))))
message_rising type.Assessment left place rest = (omega arith, (omega arith, (omega arith, (omega arith, (omega arith, (omega arith, (omega arith, tt)))))))
message_rising type.Recommendation left place rest = (omega arith, (omega arith, (omega arith, (omega arith, (omega arith, (omega arith, (omega arith, tt)))))))
message_rising type.Error left place rest = (omega arith, (omega arith, (omega arith, (omega arith, (omega arith, (omega arith, tt))))))
message_rising type.Other left place rest = (omega arith, (omega arith, (omega arith, (omega arith, (omega arith, (omega arith, tt))))))

pub lowest_counts : LowestCounts
lowest_counts = record {
  header = λ s octets f first. first_is_lowest place_of 0 (header_rows s octets) f (omega arith, (omega arith, (omega arith, (omega arith, tt)))) first;
  message = λ left place rest f first. first_is_lowest place_of place (message_rows left place rest) f (message_rising (type_in rest) left place rest) first;
}

-- ---- what is written

pub written_is_read : WrittenIsRead
written_is_read b more is =
    let form = written_form b is in
    (form, form_octets b (written b) form, whole_back b (written b) more form)

-- What is written is read as the batch, whatever follows.
pub written_front : (b : Batch) (more : List ℕ) → IsBatch b → front_of b.from_server (written b ++ more) ≡ Whole b (length (written b))
written_front b more is = (written_is_read b more is).2

-- What is read can be written.
pub read_is_batch : (s : Bool) (octets : List ℕ) (b : Batch) (n : ℕ) → AreOctets octets → front_of s octets ≡ Whole b n → IsBatch b
read_is_batch s octets b n are found =
    let form = (whole_forth s octets b n are found).form in
    record { valid = forms_valid b.messages form.rest form.messages; few = form.few; short = form.short }
