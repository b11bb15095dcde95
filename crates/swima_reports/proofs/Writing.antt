-- What is written of a report.
use Rattle.std.proofs.Common.{◌≡◌, ℕ, ◌<◌, ◌≤◌, ◌+◌, ◌^◌, inl, inr, Bool, true, false, List, [], ◌∷◌, ◌++◌, length, get_or, take, refl, sym, ap, subst, ◌∙◌, arith, append_assoc, length-append}
use Rattle.std.specs.Prelude.{All}
use Rattle.std.specs.List.{flat_map, sum_by, AllByRecursion}
use Rattle.std.proofs.lemmas.List.{append-nil, length-map, take_more}
use Rattle.std.proofs.lemmas.List.Elements.{All-from_recursion, All-head, All-tail}
use Rattle.std.proofs.lemmas.List.Sums.{sum_by-cons}
use Rattle.std.proofs.lemmas.Grind.{flat_map-append}
use Rattle.wire_base.specs.Layout.{AreFlags, Field, Flags, Form, Number}
use Rattle.wire_base.specs.Numbers.{octets_of}
use Rattle.wire_base.specs.Stamp.{IsStamp, digits}
use Rattle.wire_base.specs.Written.{Fit, flags_octet, written}
use Rattle.wire_base.proofs.WrittenLaws.{Fit-append, length-form, written-append, written_form}
use Rattle.swima_model.specs.Kinds.{record_of_kind, records_of_kind, events_of_kind}
use Rattle.swima_model.specs.Reports.{ConsultsWithin, HasStamps}
use Rattle.swima_model.specs.Size.{body_size, event_size, record_size, report_count}
use Rattle.swima_model.specs.declared.event.Event.{Event}
use Rattle.swima_model.specs.declared.record.Record.{Record}
use Rattle.swima_model.specs.declared.report.Kind.{Kind}
use Rattle.swima_model.specs.declared.report.Kind.TheVariants.{Ids, Full}
use Rattle.swima_model.specs.declared.report.Point.{Point}
use Rattle.swima_model.specs.declared.report.Report.{Report}
use Rattle.swima_model.specs.declared.report.Report.TheVariants.{Inventory, Events}
use Rattle.swima_model.proofs.OfKind.{event_of_kind, length_of_kind}
use Rattle.swima_reports.specs.ActionNumber.{action_number}
use Rattle.swima_reports.specs.ReportForm.{CanBeWritten, FULFIL, MayCarry, MayCarryEvent, ReportForm, body_fields, event_fields, record_fields, report_fields}
use Rattle.swima_reports.specs.ReportType.{report_type}
use Rattle.swima_reports.specs.Written.{CarriedIsReport, EventHasRoom, FormIsCounted, IsWritable, RecordHasRoom, WrittenIsCounted, WrittenIsRead, carried, written_report}
use Rattle.swima_reports.proofs.ReportLaws.{only}

-- ---- entries one after another

-- What is put after what was put stands after what stood before.
pub behind : (before out new front rest : List ℕ) → out ≡ before ++ front → new ≡ out ++ rest → new ≡ before ++ (front ++ rest)
behind before out new front rest first second = second ∙ ap (λ (o : List ℕ). o ++ rest) first ∙ append_assoc before front rest

-- What is written of one entry more stands after what is written of those before it.
written_more : {A : Type 0} (fields : A → List Field) (entries : List A) (i : ℕ) (d : A) → i < length entries
    → written (flat_map fields (take (i + 1) entries)) ≡ written (flat_map fields (take i entries)) ++ written (fields (get_or entries i d))
written_more fields entries i d within =
    ap (λ l. written (flat_map fields l)) (take_more entries i d within)
    ∙ ap (λ f. written f) (flat_map-append fields (take i entries) (get_or entries i d ∷ [])
    ∙ ap (λ f. flat_map fields (take i entries) ++ f) (append-nil (fields (get_or entries i d))))
    ∙ written-append (flat_map fields (take i entries)) (fields (get_or entries i d))

-- So it is after octets that stand before all of them.
pub behind_more : {A : Type 0} (fields : A → List Field) (entries : List A) (i : ℕ) (d : A) (before out new : List ℕ) → i < length entries
    → out ≡ before ++ written (flat_map fields (take i entries)) → new ≡ out ++ written (fields (get_or entries i d))
    → new ≡ before ++ written (flat_map fields (take (i + 1) entries))
behind_more fields entries i d before out new within so put =
    behind before out new (written (flat_map fields (take i entries))) (written (fields (get_or entries i d))) so put
    ∙ ap (λ (o : List ℕ). before ++ o) (sym (written_more fields entries i d within))

-- ---- how many octets are written

-- A stamp has twenty characters.
pub length-stamp : (text : List ℕ) → IsStamp text → length text ≡ 20
unfolding digits
length-stamp text (inl (m, is, e)) = ap (λ (o : List ℕ). length o) e
length-stamp text (inr e) = ap (λ (o : List ℕ). length o) e

-- A body.
length-body : (kind : Kind) (body : List ℕ) → length (written (body_fields kind body)) ≡ body_size kind body
unfolding written octets_of
length-body Ids body = refl
length-body Full body = omega (arith, length-append body [])

-- A record.
length-record : (kind : Kind) (r : Record) → length (written (record_fields kind r)) ≡ record_size kind r
unfolding written octets_of
length-record kind r =
    let body : List ℕ = written (body_fields kind r.content.body) in
    let locator : List ℕ = octets_of 2 (length r.content.locator) ++ r.content.locator ++ body in
    omega (arith, length-append r.content.ident locator, length-append r.content.locator body, length-body kind r.content.body)

-- An event.
length-event : (kind : Kind) (e : Event) → length e.stamp ≡ 20 → length (written (event_fields kind e)) ≡ event_size kind e
unfolding written octets_of
length-event kind e twenty =
    let c = e.subject.content in
    let body : List ℕ = written (body_fields kind c.body) in
    let locator : List ℕ = octets_of 2 (length c.locator) ++ c.locator ++ body in
    let ident : List ℕ = octets_of 2 (length c.ident) ++ c.ident ++ locator in
    let rest : List ℕ =
    octets_of 4 e.subject.id ++ octets_of 3 c.model.pen ++ octets_of 1 c.model.kind ++ octets_of 1 c.source
    ++ octets_of 1 (action_number e.action) ++ ident in
    omega (arith, twenty, length-append e.stamp rest, length-append c.ident locator, length-append c.locator body, length-body kind c.body)

-- Entries one after another.
length-entries : {A : Type 0} (fields : A → List Field) (size : A → ℕ) (entries : List A)
    → All (λ entry. length (written (fields entry)) ≡ size entry) entries
    → length (written (flat_map fields entries)) ≡ sum_by size entries
unfolding written
length-entries fields size [] all = refl
length-entries {A = A} fields size (entry ∷ entries) all =
    let is : A → Type 0 = λ x. length (written (fields x)) ≡ size x in
    let one : length (written (fields entry)) ≡ size entry = All-head is entry entries all in
    let others : length (written (flat_map fields entries)) ≡ sum_by size entries =
    length-entries fields size entries (All-tail is entry entries all) in
    let both : length (written (flat_map fields (entry ∷ entries))) ≡ length (written (fields entry))
    + length (written (flat_map fields entries)) =
    ap (λ (o : List ℕ). length o) (written-append (fields entry) (flat_map fields entries))
    ∙ length-append (written (fields entry)) (written (flat_map fields entries)) in
    let total : length (written (flat_map fields (entry ∷ entries))) ≡ size entry + sum_by size entries =
    omega (arith, both, one, others) in
    total ∙ sym (sum_by-cons size entry entries)

pub written_is_counted : WrittenIsCounted
unfolding written octets_of
written_is_counted (Inventory kind fulfil id point records) stamps =
    omega (arith, length-entries (record_fields kind) (record_size kind) records (λ i d within. length-record kind (get_or records i d)))
written_is_counted (Events kind fulfil id point consulted events) stamps =
    omega (
      arith,
      length-entries (event_fields kind) (event_size kind) events (λ i d within. length-event kind (get_or events i d)
          (length-stamp (get_or events i d).stamp (stamps i d within))),
    )

-- The events of a report that can be written have stamps.
pub has_stamps : (report : Report) → CanBeWritten report → HasStamps report
has_stamps (Inventory kind fulfil id point records) can = tt
has_stamps (Events kind fulfil id point consulted events) can =
    λ i d within. (All-from_recursion (MayCarryEvent kind) events can.1 i d within).0

pub form_is_counted : FormIsCounted
form_is_counted attr_type report octets form =
    length-form (report_fields report) octets form.form
    ∙ written_is_counted report (has_stamps report form.written)

-- ---- room

-- An octet of flags reports its flag.
pub flag_fits : (fulfil : Bool) → AreFlags (flags_octet ((FULFIL, fulfil) ∷ [])) ((FULFIL, fulfil) ∷ [])
flag_fits true = (refl, tt)
flag_fits false = (refl, tt)

-- Where records have room, their fields do, and what is carried of them may be.
pub records_fit : (kind : Kind) (records : List Record) → All (RecordHasRoom kind) records → Fit (flat_map (record_fields kind) records)
records_fit kind [] room = tt
records_fit kind (r ∷ rs) room =
    Fit-append (record_fields kind r) (flat_map (record_fields kind) rs) (All-head (RecordHasRoom kind) r rs room).0
    (records_fit kind rs (All-tail (RecordHasRoom kind) r rs room))

pub records_carried : (kind : Kind) (records : List Record) → All (RecordHasRoom kind) records
    → AllByRecursion (λ (r : Record). MayCarry kind r.content.body) (records_of_kind kind records)
records_carried kind [] room = tt
records_carried kind (r ∷ rs) room = (
  (All-head (RecordHasRoom kind) r rs room).1,
  records_carried kind rs (All-tail (RecordHasRoom kind) r rs room),
)

-- So it is of events.
pub events_fit : (kind : Kind) (events : List Event) → All (EventHasRoom kind) events → Fit (flat_map (event_fields kind) events)
events_fit kind [] room = tt
events_fit kind (e ∷ es) room =
    Fit-append (event_fields kind e) (flat_map (event_fields kind) es) (All-head (EventHasRoom kind) e es room).0
    (events_fit kind es (All-tail (EventHasRoom kind) e es room))

abbrev stamped : Event → Type 0
stamped e = IsStamp e.stamp

pub events_carried : (kind : Kind) (events : List Event) → All (λ (e : Event). IsStamp e.stamp) events
    → All (EventHasRoom kind) events → AllByRecursion (MayCarryEvent kind) (events_of_kind kind events)
events_carried kind [] stamps room = tt
events_carried kind (e ∷ es) stamps room = (
  (All-head stamped e es stamps, (All-head (EventHasRoom kind) e es room).1),
  events_carried kind es (All-tail stamped e es stamps)
      (All-tail (EventHasRoom kind) e es room),
)

-- A report of these parts can be written.
pub inventory_writable : (kind : Kind) (fulfil : Bool) (id : ℕ) (point : Point) (records : List Record) → length records < 2 ^ 24
    → id < 2 ^ 32 → point.epoch < 2 ^ 32 → point.eid < 2 ^ 32
    → All (RecordHasRoom kind) records → IsWritable (Inventory kind fulfil id point records)
inventory_writable kind fulfil id point records count request epoch eid room = record {
  fits = (flag_fits fulfil, (count, (request, (epoch, (eid, records_fit kind records room)))));
  carried = records_carried kind records room;
}

pub events_writable : (kind : Kind) (fulfil : Bool) (id : ℕ) (point : Point) (consulted : ℕ) (events : List Event)
    → length events < 2 ^ 24 → id < 2 ^ 32 → point.epoch < 2 ^ 32 → point.eid < 2 ^ 32
    → consulted < 2 ^ 32 → consulted ≤ point.eid → All (λ (e : Event). IsStamp e.stamp) events → All (EventHasRoom kind) events
    → IsWritable (Events kind fulfil id point consulted events)
events_writable kind fulfil id point consulted events count request epoch eid last low stamps room = record {
  fits = (flag_fits fulfil, (count, (request, (epoch, (eid, (last, events_fit kind events room))))));
  carried = (low, events_carried kind events stamps room);
}

-- ---- what is read back

-- The fields are those of what is carried.
record_carried : (kind : Kind) (r : Record) → record_fields kind (record_of_kind kind r) ≡ record_fields kind r
record_carried Ids r = refl
record_carried Full r = refl

event_carried : (kind : Kind) (e : Event) → event_fields kind (event_of_kind kind e) ≡ event_fields kind e
event_carried Ids e = refl
event_carried Full e = refl

records_same : (kind : Kind) (rs : List Record) → flat_map (record_fields kind) (records_of_kind kind rs) ≡ flat_map (record_fields kind) rs
records_same kind [] = refl
records_same kind (r ∷ rs) =
    ap (λ (f : List Field). f ++ flat_map (record_fields kind) (records_of_kind kind rs)) (record_carried kind r)
    ∙ ap (λ (f : List Field). record_fields kind r ++ f) (records_same kind rs)

events_same : (kind : Kind) (es : List Event) → flat_map (event_fields kind) (events_of_kind kind es) ≡ flat_map (event_fields kind) es
events_same kind [] = refl
events_same kind (e ∷ es) =
    ap (λ (f : List Field). f ++ flat_map (event_fields kind) (events_of_kind kind es)) (event_carried kind e)
    ∙ ap (λ (f : List Field). event_fields kind e ++ f) (events_same kind es)

-- What both kinds of reports begin with, and what follows.
abbrev head_and : Bool → ℕ → ℕ → Point → List Field → List Field
head_and fulfil count id point records =
    Flags ((FULFIL, fulfil) ∷ []) ∷ Number 3 count ∷ Number 4 id ∷ Number 4 point.epoch ∷ Number 4 point.eid ∷ records

fields_same : (report : Report) → report_fields (carried report) ≡ report_fields report
fields_same (Inventory kind fulfil id point records) =
    ap (λ (n : ℕ). head_and fulfil n id point (flat_map (record_fields kind) (records_of_kind kind records))) (length_of_kind kind records)
    ∙ ap (λ (f : List Field). head_and fulfil (length records) id point f) (records_same kind records)
fields_same (Events kind fulfil id point consulted events) =
    ap (λ (n : ℕ). head_and fulfil n id point (Number 4 consulted ∷ flat_map (event_fields kind) (events_of_kind kind events)))
    (length-map events (event_of_kind kind))
    ∙ ap (λ (f : List Field). head_and fulfil (length events) id point (Number 4 consulted ∷ f)) (events_same kind events)

-- So is the type.
type_same : (report : Report) → report_type (carried report) ≡ report_type report
type_same (Inventory Ids fulfil id point records) = refl
type_same (Inventory Full fulfil id point records) = refl
type_same (Events Ids fulfil id point consulted events) = refl
type_same (Events Full fulfil id point consulted events) = refl

-- What is written of a report has the form of what it carries.
pub written_report_form : (report : Report) → IsWritable report → ReportForm (report_type report) (carried report) (written_report report)
written_report_form report writable = record {
  of_type = type_same report;
  form = subst (λ (f : List Field). Form f (written_report report)) (sym (fields_same report))
      (written_form (report_fields report) writable.fits);
  written = writable.carried;
}

pub written_is_read : WrittenIsRead
written_is_read base report writable =
    only (report_type report) base (written_report report) (carried report) (written_report_form report writable)

-- ---- reports that their kinds may carry

record_is_carried : (kind : Kind) (r : Record) → MayCarry kind r.content.body → record_of_kind kind r ≡ r
record_is_carried Ids r none = ap (λ (body : List ℕ). record r { content = record r.content { body = body } }) (sym none)
record_is_carried Full r within = refl

records_are_carried : (kind : Kind) (rs : List Record) → AllByRecursion (λ (r : Record). MayCarry kind r.content.body) rs
    → records_of_kind kind rs ≡ rs
records_are_carried kind [] all = refl
records_are_carried kind (r ∷ rs) all =
    ap (λ (x : Record). x ∷ records_of_kind kind rs) (record_is_carried kind r all.0)
    ∙ ap (λ (l : List Record). r ∷ l) (records_are_carried kind rs all.1)

events_are_carried : (kind : Kind) (es : List Event) → AllByRecursion (MayCarryEvent kind) es → events_of_kind kind es ≡ es
events_are_carried kind [] all = refl
events_are_carried kind (e ∷ es) all =
    ap (λ (r : Record). record e { subject = r } ∷ events_of_kind kind es) (record_is_carried kind e.subject all.0.1)
    ∙ ap (λ (l : List Event). e ∷ l) (events_are_carried kind es all.1)

pub carried_is_report : CarriedIsReport
carried_is_report (Inventory kind fulfil id point records) can =
    ap (λ (l : List Record). Inventory kind fulfil id point l) (records_are_carried kind records can)
carried_is_report (Events kind fulfil id point consulted events) can =
    ap (λ (l : List Event). Events kind fulfil id point consulted l) (events_are_carried kind events can.1)

-- ---- reports that were read

-- A report that octets carry has a count that three octets give, and consulted no event after its
-- point.
pub count_within : (report : Report) (octets : List ℕ) → Form (report_fields report) octets → report_count report < 2 ^ 24
count_within (Inventory kind fulfil id point records) octets (flags, rest, is, flag, (count, behind, at, number, others)) = number.0
count_within (Events kind fulfil id point consulted events) octets (flags, rest, is, flag, (count, behind, at, number, others)) = number.0

pub consults_within : (report : Report) → CanBeWritten report → ConsultsWithin report
consults_within (Inventory kind fulfil id point records) can = tt
consults_within (Events kind fulfil id point consulted events) can = can.0
