-- The layouts of reports and the readers of them say the same.
use Rattle.std.proofs.Common.{◌≡◌, ◌↔◌, ℕ, ◌≤◌, ◌⊎◌, inl, inr, [], ◌∷◌, Bool, true, false, cond, eqb, List, length, Ok, refl, sym, ap, subst, ◌∙◌, arith}
use Rattle.std.specs.Prelude.{Some, None, nat_le}
use Rattle.std.specs.List.{AllByRecursion}
use Rattle.std.proofs.lemmas.Bool.{leb-true, le-leb, eqb-true, cases_eq}
use Rattle.wire_base.specs.Layout.{AreOctets, Counted, Field, Number, is_set, Form}
use Rattle.wire_base.specs.Reading.{Reader, whole}
use Rattle.wire_base.proofs.StampLaws.{stamp_test_is_form}
use Rattle.wire_base.proofs.Exact.{Exact, Anything, Nothing, number_exact, counted_exact}
use Rattle.wire_base.proofs.Meanings.{Means, fixed_exact, if_so_means, meaning_exact}
use Rattle.wire_base.proofs.Blocks.{then_number, then_counted, then_reserved, then_flags, then_meaning, then_part, last_part, last_several, gives, ends, whole_forth, whole_back}
use Rattle.swima_model.specs.declared.event.Action.{Action}
use Rattle.swima_model.specs.declared.event.Action.TheVariants.{Creation, Deletion, Alteration}
use Rattle.swima_model.specs.declared.event.Event.{Event}
use Rattle.swima_model.specs.declared.record.Record.{Record}
use Rattle.swima_model.specs.declared.report.Kind.{Kind}
use Rattle.swima_model.specs.declared.report.Kind.TheVariants.{Ids, Full}
use Rattle.swima_model.specs.declared.report.Point.{Point}
use Rattle.swima_model.specs.declared.report.Report.{Report}
use Rattle.swima_model.specs.declared.report.Report.TheVariants.{Inventory, Events}
use Rattle.swima_reports.specs.declared.entry.Origin.{Origin}
use Rattle.swima_reports.specs.declared.entry.Software.{Software}
use Rattle.swima_reports.specs.ActionNumber.{action_number, action_of}
use Rattle.swima_reports.specs.ReportType.{IsReportType, report_type}
use Rattle.swima_reports.specs.ReportForm.{FULFIL, MOST_BODY_OCTETS, MayCarry, MayCarryEvent, CanBeWritten, ReportForm, body_fields, record_fields, event_fields, inventory_fields, events_fields, report_fields}
use Rattle.swima_reports.specs.ReportReading.{record_from, read_body, read_origin, read_software, read_record, read_event, read_inventory, read_events, read_report}
use Rattle.swima_reports.specs.Laws.{ReadingIsForm}

-- ---- fields

-- A test on numbers decides their order.
pub at_most : (n limit : ℕ) → (nat_le n limit ≡ true) ↔ (n ≤ limit)
at_most n limit = (leb-true n limit, le-leb n limit)

-- What is looked for among three actions, where it is found.
found_of : (first second third : Bool) (action : Action) → cond first (Some Creation) (cond second (Some Deletion) (cond third (Some Alteration) None)) ≡ Some action
    → ((first ≡ true) × (Creation ≡ action)) ⊎ ((second ≡ true) × (Deletion ≡ action)) ⊎ ((third ≡ true) × (Alteration ≡ action))
found_of true second third action e = inl (refl, cc)
found_of false true third action e = inr (inl (refl, cc))
found_of false false true action e = inr (inr (refl, cc))
found_of false false false action e = absurd cc

-- An action that has a number has it.
number_of_found : (number : ℕ) (action : Action) → action_of number ≡ Some action → action_number action ≡ number
number_of_found number action e = elim (found_of (eqb 1 number) (eqb 2 number) (eqb 3 number) action e) [
  | inl one ↦ subst (λ (a : Action). action_number a ≡ number) one.1 (eqb-true 1 number one.0)
  | inr (inl two) ↦ subst (λ (a : Action). action_number a ≡ number) two.1 (eqb-true 2 number two.0)
  | inr (inr three) ↦ subst (λ (a : Action). action_number a ≡ number) three.1 (eqb-true 3 number three.0)
]

-- Each action has its number.
pub action_of_number : (action : Action) → action_of (action_number action) ≡ Some action
action_of_number Creation = refl
action_of_number Deletion = refl
action_of_number Alteration = refl

-- The numbers of actions mean these, and no other number means one.
pub action_means : Means action_of action_number (λ action. Unit {0})
action_means = record {
  forth = λ number action e. (number_of_found number action e, tt);
  back = λ action so. action_of_number action;
}

-- The body of a record.
pub body_exact : (kind : Kind) → Exact (read_body kind) (λ body. body) (body_fields kind) (MayCarry kind) Anything
unfolding read_body
body_exact Ids = gives [] refl refl (λ body h. h)
body_exact Full = meaning_exact (counted_exact 4) (if_so_means (λ body. at_most (length body) MOST_BODY_OCTETS))

-- ---- records and events

-- What a record begins with, and its fields.
abbrev pub origin_of : Record → Origin
origin_of r = record { id = r.id; model = r.content.model; source = r.content.source }

abbrev pub origin_layout : Origin → List Field
origin_layout o = Number 4 o.id ∷ Number 3 o.model.pen ∷ Number 1 o.model.kind ∷ Number 1 o.source ∷ []

pub origin_is : (o : Origin) → o ≡ record { id = o.id; model = record { pen = o.model.pen; kind = o.model.kind }; source = o.source }
origin_is o = refl

pub origin_exact : Exact read_origin (λ o. o) origin_layout (λ o. Unit {0}) Anything
unfolding read_origin
origin_exact = then_number λ id. then_number λ pen. then_number λ model. then_number λ source.
    gives (record { id = id; model = record { pen = pen; kind = model }; source = source }) refl (refl, (refl, (refl, (refl, tt)))) (λ o h. cc (origin_is o))

-- What a record ends with, and its fields.
abbrev pub software_of : Record → Software
software_of r = record { ident = r.content.ident; locator = r.content.locator; body = r.content.body }

abbrev pub software_layout : Kind → Software → List Field
software_layout kind s = Counted 2 s.ident ∷ Counted 2 s.locator ∷ body_fields kind s.body

pub software_is : (s : Software) → s ≡ record { ident = s.ident; locator = s.locator; body = s.body }
software_is s = refl

pub software_exact : (kind : Kind) → Exact (read_software kind) (λ s. s) (software_layout kind) (λ s. MayCarry kind s.body) Anything
unfolding read_software
software_exact kind = then_counted λ ident. then_counted λ locator.
    last_part (λ s. s.body) (body_exact kind) (λ s h. assumption h) λ body known.
    gives (record { ident = ident; locator = locator; body = body }) refl (assumption (refl, known)) (λ s h. cc (software_is s))

-- A record is made of its parts.
pub record_is : (r : Record) → r ≡ record { id = r.id; content = record { model = record { pen = r.content.model.pen; kind = r.content.model.kind }; source = r.content.source; ident = r.content.ident; locator = r.content.locator; body = r.content.body } }
record_is r = refl

-- A record is made of both.
made_of : (r : Record) (origin : Origin) (software : Software) → origin_of r ≡ origin → software_of r ≡ software → r ≡ record_from origin software
made_of r origin software first last = ap (λ (o : Origin). record_from o (software_of r)) first ∙ ap (record_from origin) last

-- A record in a report of the kind.
pub record_exact : (kind : Kind) → Exact (read_record kind) (λ r. r) (record_fields kind) (λ r. MayCarry kind r.content.body) Anything
unfolding read_record
record_exact kind = then_part origin_of origin_exact (λ r h. tt) λ origin any. then_reserved λ reserved.
    last_part software_of (software_exact kind) (λ r h. assumption h) λ software known.
    gives (record_from origin software) refl (assumption (refl, known)) (λ r h. made_of r origin software (assumption h) (assumption h))

-- An event is made of its parts.
pub event_is : (e : Event) → e ≡ record { eid = e.eid; stamp = e.stamp; action = e.action; subject = record { id = e.subject.id; content = record { model = record { pen = e.subject.content.model.pen; kind = e.subject.content.model.kind }; source = e.subject.content.source; ident = e.subject.content.ident; locator = e.subject.content.locator; body = e.subject.content.body } } }
event_is e = refl

-- An event in a report of the kind.
pub event_exact : (kind : Kind) → Exact (read_event kind) (λ e. e) (event_fields kind) (MayCarryEvent kind) Anything
unfolding read_event
event_exact kind = then_number λ eid.
    then_meaning (λ e. e.stamp) (fixed_exact 20) (if_so_means stamp_test_is_form) (λ e h. assumption h) λ stamp is.
    then_part (λ e. origin_of e.subject) origin_exact (λ e h. tt) λ origin any.
    then_meaning (λ e. e.action) (number_exact 1) action_means (λ e h. tt) λ action so.
    last_part (λ e. software_of e.subject) (software_exact kind) (λ e h. assumption h) λ software known.
    gives (record { eid = eid; stamp = stamp; action = action; subject = record_from origin software }) refl (assumption (refl, is, known))
    (λ e h.
    let subject : e.subject ≡ record_from origin software = made_of e.subject origin software (assumption h) (assumption h) in
    let parts : e ≡ record { eid = e.eid; stamp = e.stamp; action = e.action; subject = e.subject } = refl in
    cc)

-- ---- reports

-- A point is made of its parts.
pub point_is : (p : Point) → p ≡ record { epoch = p.epoch; eid = p.eid }
point_is p = refl

-- What an inventory reports.
pub record InventoryParts : Type 0 where
  pub fulfil : Bool
  pub id : ℕ
  pub point : Point
  pub records : List Record

abbrev pub inventory_of : Kind → InventoryParts → Report
inventory_of kind p = Inventory kind p.fulfil p.id p.point p.records

-- An inventory, after which nothing is left.
inventory_exact : (kind : Kind) → Exact (read_inventory kind) (inventory_of kind) (λ p. inventory_fields kind p.fulfil p.id p.point p.records) (λ p. AllByRecursion (λ (r : Record). MayCarry kind r.content.body) p.records) Nothing
unfolding read_inventory
inventory_exact kind = then_flags λ flags. then_number λ count. then_number λ id. then_number λ epoch. then_number λ eid.
    last_several (λ p. p.records) (record_exact kind) (λ p h. assumption h) λ records known.
    ends (record { fulfil = is_set flags FULFIL; id = id; point = record { epoch = epoch; eid = eid }; records = records }) refl (assumption (refl, known)) (λ p h. cc (point_is p.point))

-- What events report.
pub record EventsParts : Type 0 where
  pub fulfil : Bool
  pub id : ℕ
  pub point : Point
  pub consulted : ℕ
  pub events : List Event

abbrev pub events_of : Kind → EventsParts → Report
events_of kind p = Events kind p.fulfil p.id p.point p.consulted p.events

-- Events, after which nothing is left.
events_exact : (kind : Kind) → Exact (read_events kind) (events_of kind) (λ p. events_fields kind p.fulfil p.id p.point p.consulted p.events) (λ p. (p.consulted ≤ p.point.eid) × AllByRecursion (MayCarryEvent kind) p.events) Nothing
unfolding read_events
events_exact kind = then_flags λ flags. then_number λ count. then_number λ id. then_number λ epoch. then_number λ eid.
    then_meaning (λ p. p.consulted) (number_exact 4) (if_so_means (λ consulted. at_most consulted eid)) (λ p h. let last : p.point.eid ≡ eid = assumption h in let low : p.consulted ≤ p.point.eid = assumption h in omega (arith, last, low)) λ consulted low.
    last_several (λ p. p.events) (event_exact kind) (λ p h. assumption h) λ events known.
    ends (record { fulfil = is_set flags FULFIL; id = id; point = record { epoch = epoch; eid = eid }; consulted = consulted; events = events }) refl (assumption (refl, low, known)) (λ p h. cc (point_is p.point))

-- ---- reports by the type of their attribute

-- The reader of a report.
abbrev reader_of : Report → Reader Report
reader_of (Inventory kind fulfil id point records) = read_inventory kind
reader_of (Events kind fulfil id point consulted events) = read_events kind

-- It is that of the type of the attribute that carries the report.
reader_is : (report : Report) → read_report (report_type report) ≡ reader_of report
reader_is (Inventory Ids fulfil id point records) = refl
reader_is (Inventory Full fulfil id point records) = refl
reader_is (Events Ids fulfil id point consulted events) = refl
reader_is (Events Full fulfil id point consulted events) = refl

-- Octets that have the fields of a report that can be written are read as it.
read_back : (base : ℕ) (octets : List ℕ) (report : Report) → Form (report_fields report) octets → CanBeWritten report → whole (reader_of report) base octets ≡ Ok report
read_back base octets (Inventory kind fulfil id point records) form written = whole_back (inventory_exact kind) base octets (record { fulfil = fulfil; id = id; point = point; records = records }) form written
read_back base octets (Events kind fulfil id point consulted events) form written = whole_back (events_exact kind) base octets (record { fulfil = fulfil; id = id; point = point; consulted = consulted; events = events }) form written

-- A report whose form the octets have is read of all of them.
pub only : (attr_type base : ℕ) (octets : List ℕ) (report : Report) → ReportForm attr_type report octets → whole (read_report attr_type) base octets ≡ Ok report
only attr_type base octets report form =
    subst (λ (t : ℕ). whole (read_report t) base octets ≡ Ok report) form.of_type
    (ap (λ (r : Reader Report). whole r base octets) (reader_is report) ∙ read_back base octets report form.form form.written)

-- What is read of all octets as an inventory has its form.
inventory_forth : (kind : Kind) (base attr_type : ℕ) (octets : List ℕ) (report : Report) → ((p : InventoryParts) → report_type (inventory_of kind p) ≡ attr_type) → AreOctets octets → whole (read_inventory kind) base octets ≡ Ok report → ReportForm attr_type report octets
inventory_forth kind base attr_type octets report typed are e =
    let f = whole_forth (inventory_exact kind) base octets report are e in
    subst (λ (r : Report). ReportForm attr_type r octets) f.1 (record { of_type = typed f.0; form = f.2; written = f.3 })

-- What is read of all octets as events has their form.
events_forth : (kind : Kind) (base attr_type : ℕ) (octets : List ℕ) (report : Report) → ((p : EventsParts) → report_type (events_of kind p) ≡ attr_type) → AreOctets octets → whole (read_events kind) base octets ≡ Ok report → ReportForm attr_type report octets
events_forth kind base attr_type octets report typed are e =
    let f = whole_forth (events_exact kind) base octets report are e in
    subst (λ (r : Report). ReportForm attr_type r octets) f.1 (record { of_type = typed f.0; form = f.2; written = f.3 })

-- What is read by the type has the form of the type.
abbrev HasForm : ℕ → Type 0
HasForm attr_type = (base : ℕ) (octets : List ℕ) (report : Report) → AreOctets octets → whole (read_report attr_type) base octets ≡ Ok report → ReportForm attr_type report octets

-- The types are these four.
pub four_types : (t : ℕ) → IsReportType t → (t ≡ 14) ⊎ ((t ≡ 15) ⊎ ((t ≡ 16) ⊎ (t ≡ 17)))
four_types t is = elim (cases_eq t 14) [
  | inl e ↦ inl e
  | inr a ↦ elim (cases_eq t 15) [
    | inl e ↦ inr (inl e)
    | inr b ↦ elim (cases_eq t 16) [ inl e ↦ inr (inr (inl e)) | inr d ↦ inr (inr (inr (omega (arith, is, a, b, d)))) ]
  ]
]

pub form_of_type : (attr_type : ℕ) → IsReportType attr_type → HasForm attr_type
form_of_type attr_type is = elim (four_types attr_type is) [
  | inl e ↦ subst (λ (t : ℕ). HasForm t) (sym e) (λ base octets report are r. inventory_forth Ids base 14 octets report (λ p. refl) are r)
  | inr (inl e) ↦ subst (λ (t : ℕ). HasForm t) (sym e) (λ base octets report are r. events_forth Ids base 15 octets report (λ p. refl) are r)
  | inr (inr (inl e)) ↦ subst (λ (t : ℕ). HasForm t) (sym e) (λ base octets report are r. inventory_forth Full base 16 octets report (λ p. refl) are r)
  | inr (inr (inr e)) ↦ subst (λ (t : ℕ). HasForm t) (sym e) (λ base octets report are r. events_forth Full base 17 octets report (λ p. refl) are r)
]

-- Octets are read as a report exactly where they have its form.
pub reading_is_form : ReadingIsForm
reading_is_form attr_type is base octets report are = (λ read. form_of_type attr_type is base octets report are read, λ form. only attr_type base octets report form)
