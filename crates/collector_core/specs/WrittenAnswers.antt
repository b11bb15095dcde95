-- What is written of answers (RFC 8412, sections 5.7 to 5.10).
use Rattle.std.specs.Prelude.{◌≡◌, ◌<◌, ◌≤◌, ◌^◌, ℕ, Ok}
use Rattle.wire_base.specs.Reading.{whole}
use Rattle.swima_model.specs.declared.report.Report.{Report}
use Rattle.swima_model.specs.Reports.{FitsAttribute, MOST_REPORT_OCTETS}
use Rattle.swima_request.specs.declared.request.Request.{Request}
use Rattle.swima_reports.specs.ReportReading.{read_report}
use Rattle.swima_reports.specs.ReportType.{report_type}
use Rattle.swima_reports.specs.Written.{IsWritable, written_report}
use Rattle.collector_core.specs.declared.answer.Answer.TheVariants as answer
use Rattle.collector_core.specs.Answering.{answer_at}
use Rattle.collector_core.specs.Chronicle.{Chronicle}
use Rattle.collector_core.specs.Legal.{IsLegal}

-- The report fits an attribute, has room in its fields, and is read back as it was from what is
-- written.
pub record IsReadBack (report : Report) : Type 0 where
  pub fits : FitsAttribute report
  pub writable : IsWritable report
  pub same : (base : ℕ) → whole (read_report (report_type report)) base (written_report report) ≡ Ok report

-- At a legal chronicle, each report that answers a request meets this, where the identifier of the
-- request fits four octets and no more octets were asked for than a report may have.
abbrev pub AnswersAreReadBack : Type 0
AnswersAreReadBack = (chronicle : Chronicle) (request : Request) (most : ℕ) (report : Report) → IsLegal chronicle
    → request.id < 2 ^ 32 → most ≤ MOST_REPORT_OCTETS → answer_at chronicle request most ≡ answer.Report report → IsReadBack report
