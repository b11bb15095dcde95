-- The values of the attributes that carry reports (RFC 8412): an inventory (sections 5.7 and 5.9)
-- and events (sections 5.8 and 5.10), each of identifiers only or of whole records.
use Rattle.std.specs.Prelude.{◌≡◌, ◌≤◌, ℕ, Bool, List, [], ◌∷◌, length}
use Rattle.std.specs.List.{flat_map, AllByRecursion}
use Rattle.wire_base.specs.FirstFault.{FirstFault}
use Rattle.wire_base.specs.Layout.{Field, Number, Reserved, Flags, Fixed, Counted, Form}
use Rattle.wire_base.specs.Stamp.{IsStamp}
use Rattle.swima_model.specs.declared.event.Event.{Event}
use Rattle.swima_model.specs.declared.record.Record.{Record}
use Rattle.swima_model.specs.declared.report.Kind.{Kind}
use Rattle.swima_model.specs.declared.report.Kind.TheVariants.{Ids, Full}
use Rattle.swima_model.specs.declared.report.Point.{Point}
use Rattle.swima_model.specs.declared.report.Report.{Report}
use Rattle.swima_model.specs.declared.report.Report.TheVariants.{Inventory, Events}
use Rattle.swima_reports.specs.ActionNumber.{action_number}
use Rattle.swima_reports.specs.ReportType.{report_type}

-- ---- records and events

-- The body of a record stands in reports of whole records alone (sections 5.9 and 5.10).
abbrev pub body_fields : Kind → List ℕ → List Field
body_fields Ids body = []
body_fields Full body = Counted 4 body ∷ []  -- Record Length, Record

-- A record (section 5.7, and section 5.9 with its body).
abbrev pub record_fields : Kind → Record → List Field
record_fields kind r =
    Number 4 r.id  -- Record Identifier
    ∷ Number 3 r.content.model.pen  -- Data Model Type PEN
    ∷ Number 1 r.content.model.kind  -- Data Model Type
    ∷ Number 1 r.content.source  -- Source Identification Number
    ∷ Reserved 1  -- Reserved
    ∷ Counted 2 r.content.ident  -- Software Identifier Length, Software Identifier
    ∷ Counted 2 r.content.locator  -- Software Locator Length, Software Locator
    ∷ body_fields kind r.content.body

-- An event (section 5.8, and section 5.10 with the body of its record).
abbrev pub event_fields : Kind → Event → List Field
event_fields kind e =
    Number 4 e.eid  -- EID
    ∷ Fixed 20 e.stamp  -- Timestamp
    ∷ Number 4 e.subject.id  -- Record Identifier
    ∷ Number 3 e.subject.content.model.pen  -- Data Model Type PEN
    ∷ Number 1 e.subject.content.model.kind  -- Data Model Type
    ∷ Number 1 e.subject.content.source  -- Source Identification Number
    ∷ Number 1 (action_number e.action)  -- Action
    ∷ Counted 2 e.subject.content.ident  -- Software Identifier Length, Software Identifier
    ∷ Counted 2 e.subject.content.locator  -- Software Locator Length, Software Locator
    ∷ body_fields kind e.subject.content.body

-- ---- reports

-- The flag that says that the report fulfils a subscription: the highest bit of the flags.
abbrev pub FULFIL : ℕ
FULFIL = 128

-- An inventory: a head, and the records one after another (sections 5.7 and 5.9).
abbrev pub inventory_fields : Kind → Bool → ℕ → Point → List Record → List Field
inventory_fields kind fulfil id point records =
    Flags ((FULFIL, fulfil) ∷ [])  -- Flags
    ∷ Number 3 (length records)  -- Record Count
    ∷ Number 4 id  -- Request ID Copy
    ∷ Number 4 point.epoch  -- EID Epoch
    ∷ Number 4 point.eid  -- Last EID
    ∷ flat_map (record_fields kind) records

-- Events: a head, and the events one after another (sections 5.8 and 5.10).
abbrev pub events_fields : Kind → Bool → ℕ → Point → ℕ → List Event → List Field
events_fields kind fulfil id point consulted events =
    Flags ((FULFIL, fulfil) ∷ [])  -- Flags
    ∷ Number 3 (length events)  -- Event Count
    ∷ Number 4 id  -- Request ID Copy
    ∷ Number 4 point.epoch  -- EID Epoch
    ∷ Number 4 point.eid  -- Last EID
    ∷ Number 4 consulted  -- Last Consulted EID
    ∷ flat_map (event_fields kind) events

-- A report.
abbrev pub report_fields : Report → List Field
report_fields (Inventory kind fulfil id point records) = inventory_fields kind fulfil id point records
report_fields (Events kind fulfil id point consulted events) = events_fields kind fulfil id point consulted events

-- ---- what a report may carry

-- The most octets of a body.
abbrev pub MOST_BODY_OCTETS : ℕ
MOST_BODY_OCTETS = 1048576

-- A report of the kind may carry the body: of identifiers none, and of whole records one that is
-- not too long.
abbrev pub MayCarry : Kind → List ℕ → Type 0
MayCarry Ids body = body ≡ []
MayCarry Full body = length body ≤ MOST_BODY_OCTETS

-- It may carry the event: its time is reported as a stamp.
abbrev pub MayCarryEvent : Kind → Event → Type 0
MayCarryEvent kind e = IsStamp e.stamp × MayCarry kind e.subject.content.body

-- The report can be written: it carries what its kind may, and the last event that was consulted is
-- none after its point (section 5.8, "Last Consulted EID").
abbrev pub CanBeWritten : Report → Type 0
CanBeWritten (Inventory kind fulfil id point records) = AllByRecursion (λ (r : Record). MayCarry kind r.content.body) records
CanBeWritten (Events kind fulfil id point consulted events) = (consulted ≤ point.eid) × AllByRecursion (MayCarryEvent kind) events

-- ---- values of attributes

-- The octets are the value of an attribute of the type that carries the report.
pub record ReportForm (attr_type : ℕ) (report : Report) (octets : List ℕ) : Type 0 where
  pub of_type : report_type report ≡ attr_type
  pub form : Form (report_fields report) octets
  pub written : CanBeWritten report

-- A report that an attribute of the type can carry.
abbrev pub IsCarried : ℕ → Report → Type 0
IsCarried attr_type report = (report_type report ≡ attr_type) × CanBeWritten report

-- The first fault of the value of an attribute of the type, of which the first octet stands at
-- `base`, is at the place. The octets before it are the first fields of some report, and after them
-- they go on as no report does.
abbrev pub ReportFault : ℕ → ℕ → List ℕ → ℕ → Type 0
ReportFault attr_type base octets place = FirstFault report_fields (IsCarried attr_type) base octets place
