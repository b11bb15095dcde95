-- The reader of reports says a fault exactly where it is the first one.
use Rattle.std.proofs.Common.{◌≡◌, ℕ, ◌≤◌, inl, inr, Bool, List, [], ◌∷◌, ◌++◌, length, refl, sym, ap, subst, ◌∙◌, arith}
use Rattle.std.specs.Prelude.{Some}
use Rattle.std.specs.List.{AllByRecursion, flat_map}
use Rattle.wire_base.specs.Layout.{is_set, Field}
use Rattle.wire_base.specs.Reading.{Reader, octets}
use Rattle.wire_base.specs.Stamp.{UNKNOWN_TIME}
use Rattle.wire_base.proofs.StampLaws.{stamp_test_is_form}
use Rattle.wire_base.proofs.Exact.{Anything, Nothing, number_exact, counted_exact}
use Rattle.wire_base.proofs.Meanings.{fixed_exact, if_so_means, meaning_exact}
use Rattle.wire_base.proofs.FormOrFault.{reads_first_fault, one_of_two, none_is_a_front}
use Rattle.swima_model.specs.declared.event.Action.TheVariants.{Creation}
use Rattle.swima_model.specs.declared.record.Record.{Record}
use Rattle.swima_model.specs.declared.report.Kind.{Kind}
use Rattle.swima_model.specs.declared.report.Kind.TheVariants.{Ids, Full}
use Rattle.swima_model.specs.declared.report.Report.{Report}
use Rattle.swima_model.specs.declared.report.Report.TheVariants.{Inventory, Events}
use Rattle.swima_reports.specs.ActionNumber.{action_number, action_of}
use Rattle.swima_reports.specs.ReportType.{IsReportType, report_type}
use Rattle.swima_reports.specs.ReportForm.{FULFIL, MOST_BODY_OCTETS, MayCarry, MayCarryEvent, CanBeWritten, IsCarried, body_fields, record_fields, event_fields, inventory_fields, events_fields, report_fields}
use Rattle.swima_reports.specs.ReportReading.{record_from, read_body, read_origin, read_software, read_record, read_event, read_inventory, read_events, read_report}
use Rattle.swima_reports.specs.Laws.{FaultIsFirst, AreOneOfTwo, NoFormIsAFront}
use Rattle.wire_base.proofs.Faults.{ExactFaults, Alike, relaid, then_part, last_part}
use Rattle.wire_base.proofs.FieldFaults.{set_of, octets_start, number_start, counted_start, meaning_start, value_faults, then_number, then_counted, then_meaning, then_reserved, then_flags, alike_lists, last_several, gives, ends}
use Rattle.swima_reports.proofs.ReportLaws.{at_most, action_means, action_of_number, body_exact, record_is, origin_of, origin_layout, origin_is, origin_exact, software_of, software_layout, software_is, software_exact, record_exact, event_is, event_exact, point_is, InventoryParts, inventory_of, EventsParts, events_of, four_types, reading_is_form}

-- ---- bodies

body_faults : (kind : Kind) → ExactFaults (read_body kind) (body_fields kind) (MayCarry kind) Anything
unfolding read_body
body_faults Ids = gives [] [] refl
body_faults Full =
    value_faults (meaning_exact (counted_exact 4) (if_so_means (λ body. at_most (length body) MOST_BODY_OCTETS))) (meaning_start _ (counted_start 4)) [] (omega arith)

body_alike : (kind : Kind) → Alike (body_fields kind) (MayCarry kind)
body_alike Ids one other more most so also e = so ∙ sym also
body_alike Full one other more most so also e = cc

-- ---- records and events

origin_faults : ExactFaults read_origin origin_layout (λ o. Unit {0}) Anything
unfolding read_origin
origin_faults = then_number λ id. then_number λ pen. then_number λ model. then_number λ source.
    gives _ (record { id = id; model = record { pen = pen; kind = model }; source = source }) (refl, (refl, (refl, (refl, tt))))

origin_alike : Alike origin_layout (λ o. Unit {0})
origin_alike one other more most so also e = cc (origin_is one, origin_is other)

software_faults : (kind : Kind) → ExactFaults (read_software kind) (software_layout kind) (λ s. MayCarry kind s.body) Anything
unfolding read_software
software_faults kind = then_counted λ ident. then_counted λ locator.
    last_part (λ s. s.body) (body_exact kind) (body_faults kind) (body_alike kind) (λ s h. assumption h) λ body known.
    gives _ (record { ident = ident; locator = locator; body = body }) (assumption (refl, known))

software_alike : (kind : Kind) → Alike (software_layout kind) (λ s. MayCarry kind s.body)
software_alike kind one other more most so also e =
    let bodies : body_fields kind one.body ++ more ≡ body_fields kind other.body ++ most = cc in
    let body : one.body ≡ other.body = body_alike kind one.body other.body more most so also bodies in
    cc (software_is one, software_is other)

record_faults : (kind : Kind) → ExactFaults (read_record kind) (record_fields kind) (λ r. MayCarry kind r.content.body) Anything
unfolding read_record
record_faults kind = then_part origin_of origin_exact origin_faults origin_alike (λ r h. tt) λ origin any. then_reserved λ reserved.
    last_part software_of (software_exact kind) (software_faults kind) (software_alike kind) (λ r h. assumption h) λ software known.
    gives _ (record_from origin software) (assumption (refl, known))

record_alike : (kind : Kind) → Alike (record_fields kind) (λ r. MayCarry kind r.content.body)
record_alike kind one other more most so also e =
    let bodies : body_fields kind one.content.body ++ more ≡ body_fields kind other.content.body ++ most = cc in
    let body : one.content.body ≡ other.content.body = body_alike kind one.content.body other.content.body more most so also bodies in
    cc (record_is one, record_is other)

event_faults : (kind : Kind) → ExactFaults (read_event kind) (event_fields kind) (MayCarryEvent kind) Anything
unfolding read_event
event_faults kind = then_number λ eid.
    then_meaning (λ e. e.stamp) (fixed_exact 20) (octets_start 20) (λ one other more most so also e. cc) (if_so_means stamp_test_is_form) UNKNOWN_TIME (inr refl) (λ e h. assumption h) λ stamp is.
    then_part (λ e. origin_of e.subject) origin_exact origin_faults origin_alike (λ e h. tt) λ origin any.
    then_meaning (λ e. e.action) (number_exact 1) (number_start 1) (λ one other more most so also e. cc) action_means Creation tt (λ e h. tt) λ action so.
    last_part (λ e. software_of e.subject) (software_exact kind) (software_faults kind) (software_alike kind) (λ e h. assumption h) λ software known.
    gives _ (record { eid = eid; stamp = stamp; action = action; subject = record_from origin software }) (assumption (refl, is, known))

event_alike : (kind : Kind) → Alike (event_fields kind) (MayCarryEvent kind)
event_alike kind one other more most so also e =
    let bodies : body_fields kind one.subject.content.body ++ more ≡ body_fields kind other.subject.content.body ++ most = cc in
    let body : one.subject.content.body ≡ other.subject.content.body = body_alike kind one.subject.content.body other.subject.content.body more most so.1 also.1 bodies in
    let numbers : action_number one.action ≡ action_number other.action = cc in
    let actions : Some one.action ≡ Some other.action = sym (action_of_number one.action) ∙ ap action_of numbers ∙ action_of_number other.action in
    cc (event_is one, event_is other)

-- ---- reports

-- The flags of a report, of which one is named.
abbrev flags_of : Bool → List (ℕ × Bool)
flags_of fulfil = (FULFIL, fulfil) ∷ []

one_flag : (one other : Bool) → flags_of one ≡ flags_of other → one ≡ other
one_flag one other e = let set : one ∷ [] ≡ other ∷ [] = ap set_of e in cc

inventory_faults : (kind : Kind) → ExactFaults {P = InventoryParts} (read_inventory kind) (λ p. inventory_fields kind p.fulfil p.id p.point p.records) (λ p. AllByRecursion (λ (r : Record). MayCarry kind r.content.body) p.records) Nothing
unfolding read_inventory
inventory_faults kind = then_flags (λ one other. refl) λ flags. then_number λ count. then_number λ id. then_number λ epoch. then_number λ eid.
    last_several (λ p. p.records) (record_exact kind) (record_faults kind) (record_alike kind) (λ p h. assumption h) λ records known.
    ends _ (record { fulfil = is_set flags FULFIL; id = id; point = record { epoch = epoch; eid = eid }; records = records }) (assumption (refl, known))

events_faults : (kind : Kind) → ExactFaults {P = EventsParts} (read_events kind) (λ p. events_fields kind p.fulfil p.id p.point p.consulted p.events) (λ p. (p.consulted ≤ p.point.eid) × AllByRecursion (MayCarryEvent kind) p.events) Nothing
unfolding read_events
events_faults kind = then_flags (λ one other. refl) λ flags. then_number λ count. then_number λ id. then_number λ epoch. then_number λ eid.
    then_meaning (λ p. p.consulted) (number_exact 4) (number_start 4) (λ one other more most so also e. cc) (if_so_means (λ consulted. at_most consulted eid)) 0 (omega arith)
    (λ p h. let last : p.point.eid ≡ eid = assumption h in let low : p.consulted ≤ p.point.eid = assumption h in omega (arith, last, low)) λ consulted low.
    last_several (λ p. p.events) (event_exact kind) (event_faults kind) (event_alike kind) (λ p h. assumption h) λ events known.
    ends _ (record { fulfil = is_set flags FULFIL; id = id; point = record { epoch = epoch; eid = eid }; consulted = consulted; events = events }) (assumption (refl, low, known))

-- The parts of reports are these.
inventory_parts_are : (p : InventoryParts) → p ≡ record { fulfil = p.fulfil; id = p.id; point = p.point; records = p.records }
inventory_parts_are p = refl

events_parts_are : (p : EventsParts) → p ≡ record { fulfil = p.fulfil; id = p.id; point = p.point; consulted = p.consulted; events = p.events }
events_parts_are p = refl

inventory_alike : (kind : Kind) → Alike {A = InventoryParts} (λ p. inventory_fields kind p.fulfil p.id p.point p.records) (λ p. AllByRecursion (λ (r : Record). MayCarry kind r.content.body) p.records)
inventory_alike kind one other more most so also e =
    let count : length one.records ≡ length other.records = cc in
    let tails : flat_map (record_fields kind) one.records ++ more ≡ flat_map (record_fields kind) other.records ++ most = cc in
    let flags : flags_of one.fulfil ≡ flags_of other.fulfil = cc in
    let fulfil : one.fulfil ≡ other.fulfil = one_flag one.fulfil other.fulfil flags in
    let same : one.records ≡ other.records = alike_lists (record_fields kind) (record_alike kind) one.records other.records more most count so also tails in
    cc (point_is one.point, point_is other.point, inventory_parts_are one, inventory_parts_are other)

events_alike : (kind : Kind) → Alike {A = EventsParts} (λ p. events_fields kind p.fulfil p.id p.point p.consulted p.events) (λ p. (p.consulted ≤ p.point.eid) × AllByRecursion (MayCarryEvent kind) p.events)
events_alike kind one other more most so also e =
    let count : length one.events ≡ length other.events = cc in
    let tails : flat_map (event_fields kind) one.events ++ more ≡ flat_map (event_fields kind) other.events ++ most = cc in
    let flags : flags_of one.fulfil ≡ flags_of other.fulfil = cc in
    let fulfil : one.fulfil ≡ other.fulfil = one_flag one.fulfil other.fulfil flags in
    let same : one.events ≡ other.events = alike_lists (event_fields kind) (event_alike kind) one.events other.events more most count so.1 also.1 tails in
    cc (point_is one.point, point_is other.point, events_parts_are one, events_parts_are other)

-- ---- reports by the type of their attribute

-- Reports of an inventory's type are inventories of its kind.
of_inventory : (kind : Kind) (parts : InventoryParts) (report : Report) → report_type report ≡ report_type (inventory_of kind parts) → (p : InventoryParts) × (inventory_of kind p ≡ report)
of_inventory Ids parts (Inventory Ids fulfil id point records) e = (record { fulfil = fulfil; id = id; point = point; records = records }, refl)
of_inventory Ids parts (Inventory Full fulfil id point records) e = absurd (omega (arith, e))
of_inventory Ids parts (Events Ids fulfil id point consulted events) e = absurd (omega (arith, e))
of_inventory Ids parts (Events Full fulfil id point consulted events) e = absurd (omega (arith, e))
of_inventory Full parts (Inventory Ids fulfil id point records) e = absurd (omega (arith, e))
of_inventory Full parts (Inventory Full fulfil id point records) e = (record { fulfil = fulfil; id = id; point = point; records = records }, refl)
of_inventory Full parts (Events Ids fulfil id point consulted events) e = absurd (omega (arith, e))
of_inventory Full parts (Events Full fulfil id point consulted events) e = absurd (omega (arith, e))

-- Reports of the type of events are events of their kind.
of_events : (kind : Kind) (parts : EventsParts) (report : Report) → report_type report ≡ report_type (events_of kind parts) → (p : EventsParts) × (events_of kind p ≡ report)
of_events Ids parts (Events Ids fulfil id point consulted events) e = (record { fulfil = fulfil; id = id; point = point; consulted = consulted; events = events }, refl)
of_events Ids parts (Events Full fulfil id point consulted events) e = absurd (omega (arith, e))
of_events Ids parts (Inventory Ids fulfil id point records) e = absurd (omega (arith, e))
of_events Ids parts (Inventory Full fulfil id point records) e = absurd (omega (arith, e))
of_events Full parts (Events Ids fulfil id point consulted events) e = absurd (omega (arith, e))
of_events Full parts (Events Full fulfil id point consulted events) e = (record { fulfil = fulfil; id = id; point = point; consulted = consulted; events = events }, refl)
of_events Full parts (Inventory Ids fulfil id point records) e = absurd (omega (arith, e))
of_events Full parts (Inventory Full fulfil id point records) e = absurd (omega (arith, e))

-- The faults of parts are those of the reports that they make, and these are alike as they are.
module _ {P : Type 0} (fields : P → List Field) (holds : P → Type 0) (attr_type : ℕ) (make : P → Report)
    (same : (p : P) → (report_fields (make p) ≡ fields p) × (holds p → IsCarried attr_type (make p)) × (CanBeWritten (make p) → holds p)) (from : (report : Report) → report_type report ≡ attr_type → (p : P) × (make p ≡ report)) where
  made_faults : {reader : Reader Report} → ExactFaults reader fields holds Nothing → ExactFaults reader report_fields (IsCarried attr_type) Nothing
  made_faults faults = relaid
      (λ firsts others b. record { value = make b.value; so = (same b.value).1 b.so; split = (same b.value).0 ∙ b.split })
      (λ firsts others b.
      let f = from b.value b.so.0 in
      record { value = f.0; so = (same f.0).2 (subst CanBeWritten (sym f.1) b.so.1); split = sym (same f.0).0 ∙ ap report_fields f.1 ∙ b.split })
      faults

  made_alike : Alike fields holds → Alike report_fields (IsCarried attr_type)
  made_alike alike one other more most so also e =
      let f = from one so.0 in
      let g = from other also.0 in
      let left : fields f.0 ++ more ≡ report_fields one ++ more = ap (λ (l : List Field). l ++ more) (sym (same f.0).0 ∙ ap report_fields f.1) in
      let right : report_fields other ++ most ≡ fields g.0 ++ most = ap (λ (l : List Field). l ++ most) (sym (ap report_fields g.1) ∙ (same g.0).0) in
      let is : f.0 ≡ g.0 = alike f.0 g.0 more most ((same f.0).2 (subst CanBeWritten (sym f.1) so.1)) ((same g.0).2 (subst CanBeWritten (sym g.1) also.1)) (left ∙ e ∙ right) in
      sym f.1 ∙ ap make is ∙ g.1

-- What is said of reports of a type.
record TypeFaults (attr_type : ℕ) : Type 0 where
  faults : ExactFaults (read_report attr_type) report_fields (IsCarried attr_type) Nothing
  alike : Alike report_fields (IsCarried attr_type)

inventory_reports : (kind : Kind) (attr_type : ℕ) → read_inventory kind ≡ read_report attr_type → ((p : InventoryParts) → report_type (inventory_of kind p) ≡ attr_type) → TypeFaults attr_type
inventory_reports kind attr_type read typed =
    let fields : InventoryParts → List Field = λ p. inventory_fields kind p.fulfil p.id p.point p.records in
    let holds : InventoryParts → Type 0 = λ p. AllByRecursion (λ (r : Record). MayCarry kind r.content.body) p.records in
    let faults = inventory_faults kind in
    let from = λ (report : Report) (e : report_type report ≡ attr_type). of_inventory kind faults.some report (e ∙ sym (typed faults.some)) in
    record {
      faults = subst (λ (r : Reader Report). ExactFaults r report_fields (IsCarried attr_type) Nothing) read (made_faults fields holds attr_type (inventory_of kind) (λ p. (refl, (λ so. (typed p, so)), (λ so. so))) from faults);
      alike = made_alike fields holds attr_type (inventory_of kind) (λ p. (refl, (λ so. (typed p, so)), (λ so. so))) from (inventory_alike kind);
    }

events_reports : (kind : Kind) (attr_type : ℕ) → read_events kind ≡ read_report attr_type → ((p : EventsParts) → report_type (events_of kind p) ≡ attr_type) → TypeFaults attr_type
events_reports kind attr_type read typed =
    let fields : EventsParts → List Field = λ p. events_fields kind p.fulfil p.id p.point p.consulted p.events in
    let holds : EventsParts → Type 0 = λ p. (p.consulted ≤ p.point.eid) × AllByRecursion (MayCarryEvent kind) p.events in
    let faults = events_faults kind in
    let from = λ (report : Report) (e : report_type report ≡ attr_type). of_events kind faults.some report (e ∙ sym (typed faults.some)) in
    record {
      faults = subst (λ (r : Reader Report). ExactFaults r report_fields (IsCarried attr_type) Nothing) read (made_faults fields holds attr_type (events_of kind) (λ p. (refl, (λ so. (typed p, so)), (λ so. so))) from faults);
      alike = made_alike fields holds attr_type (events_of kind) (λ p. (refl, (λ so. (typed p, so)), (λ so. so))) from (events_alike kind);
    }

type_faults : (attr_type : ℕ) → IsReportType attr_type → TypeFaults attr_type
type_faults attr_type is = elim (four_types attr_type is) [
  | inl e ↦ subst TypeFaults (sym e) (inventory_reports Ids 14 refl (λ p. refl))
  | inr (inl e) ↦ subst TypeFaults (sym e) (events_reports Ids 15 refl (λ p. refl))
  | inr (inr (inl e)) ↦ subst TypeFaults (sym e) (inventory_reports Full 16 refl (λ p. refl))
  | inr (inr (inr e)) ↦ subst TypeFaults (sym e) (events_reports Full 17 refl (λ p. refl))
]

-- ---- the laws

pub fault_is_first : FaultIsFirst
fault_is_first attr_type is = reads_first_fault (type_faults attr_type is).faults

pub form_or_fault : AreOneOfTwo
form_or_fault attr_type is = one_of_two (read_report attr_type) (reading_is_form attr_type is) (fault_is_first attr_type is)

-- The type of a report is one of the four.
type_of_report : (report : Report) → IsReportType (report_type report)
type_of_report (Inventory Ids fulfil id point records) = (omega arith, omega arith)
type_of_report (Inventory Full fulfil id point records) = (omega arith, omega arith)
type_of_report (Events Ids fulfil id point consulted events) = (omega arith, omega arith)
type_of_report (Events Full fulfil id point consulted events) = (omega arith, omega arith)

pub no_form_is_a_front : NoFormIsAFront
no_form_is_a_front attr_type one other octets more are this that =
    let is : IsReportType attr_type = subst IsReportType this.of_type (type_of_report one) in
    none_is_a_front (type_faults attr_type is).alike (λ report octets form. (form.form, (form.of_type, form.written))) (form_or_fault attr_type is) one other octets more are this that
