-- What is written of a report (RFC 8412, sections 5.7 to 5.10).
use Rattle.std.specs.Prelude.{◌≡◌, ◌<◌, ◌≤◌, ◌^◌, ◌↔◌, ℕ, List, Ok, drop, length, take}
use Rattle.wire_base.specs.Layout.{Field}
use Rattle.wire_base.specs.Reading.{whole}
use Rattle.wire_base.specs.Written.{Fit, written}
use Rattle.swima_model.specs.Kinds.{body_of_kind, records_of_kind, events_of_kind}
use Rattle.swima_model.specs.declared.event.Event.{Event}
use Rattle.swima_model.specs.declared.record.Record.{Record}
use Rattle.swima_model.specs.declared.report.Kind.{Kind}
use Rattle.swima_model.specs.declared.report.Kind.TheVariants.{Ids}
use Rattle.swima_model.specs.declared.report.Report.{Report}
use Rattle.swima_model.specs.declared.report.Report.TheVariants.{Inventory, Events}
use Rattle.swima_model.specs.Fulfilling.{fulfilling}
use Rattle.swima_model.specs.Reports.{ConsultsWithin, FitsAttribute, HasStamps, MOST_REPORT_OCTETS}
use Rattle.swima_model.specs.Size.{report_count, report_size}
use Rattle.swima_reports.specs.ReportForm.{CanBeWritten, MayCarry, ReportForm, event_fields, record_fields, report_fields}
use Rattle.swima_reports.specs.ReportReading.{read_report}
use Rattle.swima_reports.specs.ReportType.{report_type}

-- The octets that are written.
abbrev pub written_report : Report → List ℕ
written_report report = written (report_fields report)

-- What they carry of the report: those of a report of identifiers have no bodies (sections 5.7 and
-- 5.8).
abbrev pub carried : Report → Report
carried (Inventory kind fulfil id point records) = Inventory kind fulfil id point (records_of_kind kind records)
carried (Events kind fulfil id point consulted events) = Events kind fulfil id point consulted (events_of_kind kind events)

-- ---- parts of the layout

-- The fields of a record before its reserved octet, and those after it; an event has them before
-- and after its action.
abbrev pub origin_fields : Record → List Field
origin_fields r = take 4 (record_fields Ids r)

abbrev pub software_fields : Kind → Record → List Field
software_fields kind r = drop 5 (record_fields kind r)

-- ---- what its parts are by their types

-- The fields of a record have room, and its body is none that is too long.
abbrev pub RecordHasRoom : Kind → Record → Type 0
RecordHasRoom kind r = Fit (record_fields kind r) × MayCarry kind (body_of_kind kind r.content.body)

-- So it is of an event.
abbrev pub EventHasRoom : Kind → Event → Type 0
EventHasRoom kind e = Fit (event_fields kind e) × MayCarry kind (body_of_kind kind e.subject.content.body)

-- The fields of a report have room, and what is carried of it may be.
pub record IsWritable (report : Report) : Type 0 where
  pub fits : Fit (report_fields report)
  pub carried : CanBeWritten (carried report)

-- A report fits an attribute exactly where `write_report` may be called with it.
abbrev pub FitsIsAsked : Type 0
FitsIsAsked = (report : Report)
    → FitsAttribute report ↔ ((report_count report < 2 ^ 24) × (report_size report ≤ 16777000) × HasStamps report × ConsultsWithin report)

-- A report that was read of no more octets than one has that is written fits an attribute.
abbrev pub ReadFits : Type 0
ReadFits = (attr_type : ℕ) (report : Report) (octets : List ℕ) → ReportForm attr_type report octets
    → length octets ≤ MOST_REPORT_OCTETS → FitsAttribute report

-- ---- what is written

-- What is written of a report is read back as what it carries, of the type that carries the report.
abbrev pub WrittenIsRead : Type 0
WrittenIsRead = (base : ℕ) (report : Report) → IsWritable report
    → whole (read_report (report_type report)) base (written_report report) ≡ Ok (carried report)

-- Of a report that its kind may carry, that is the report.
abbrev pub CarriedIsReport : Type 0
CarriedIsReport = (report : Report) → CanBeWritten report → carried report ≡ report

-- It has as many octets as `report_size` counts.
abbrev pub WrittenIsCounted : Type 0
WrittenIsCounted = (report : Report) → HasStamps report → length (written_report report) ≡ report_size report

-- So has each value of an attribute that carries the report, whatever stands where any octets may.
abbrev pub FormIsCounted : Type 0
FormIsCounted = (attr_type : ℕ) (report : Report) (octets : List ℕ) → ReportForm attr_type report octets
    → length octets ≡ report_size report

-- ---- reports that fulfil a subscription

-- Where the fields of a report have room, those of the one that fulfils a subscription do. Both
-- have one attribute type, and what is carried of both differs in the flag alone.
abbrev pub FulfillingIsWritable : Type 0
FulfillingIsWritable = (report : Report) → (IsWritable report → IsWritable (fulfilling report))
    × (report_type (fulfilling report) ≡ report_type report) × (carried (fulfilling report) ≡ fulfilling (carried report))
