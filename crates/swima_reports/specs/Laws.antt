-- What is proved of every value about reading and the form of reports.
use Rattle.std.specs.Prelude.{ℕ}
use Rattle.wire_base.specs.FirstFault.{FormOrFault, NoneIsAFront, ReadsFault, ReadsForm}
use Rattle.swima_reports.specs.ReportForm.{ReportFault, ReportForm}
use Rattle.swima_reports.specs.ReportReading.{read_report}
use Rattle.swima_reports.specs.ReportType.{IsReportType}

-- A report is read of octets exactly where they have its form.
abbrev pub ReadingIsForm : Type 0
ReadingIsForm = (attr_type : ℕ) → IsReportType attr_type → ReadsForm (read_report attr_type) (ReportForm attr_type)

-- A fault is read of octets exactly where it is their first.
abbrev pub FaultIsFirst : Type 0
FaultIsFirst = (attr_type : ℕ) → IsReportType attr_type → ReadsFault (read_report attr_type) (ReportFault attr_type)

-- Octets are the form of a report or have a first fault: exactly one of the two, and one report or
-- fault alone.
abbrev pub AreOneOfTwo : Type 0
AreOneOfTwo = (attr_type : ℕ) → IsReportType attr_type → FormOrFault (ReportForm attr_type) (ReportFault attr_type)

-- No form of a report is a prefix of another one of the same type.
abbrev pub NoFormIsAFront : Type 0
NoFormIsAFront = (attr_type : ℕ) → NoneIsAFront (ReportForm attr_type)
