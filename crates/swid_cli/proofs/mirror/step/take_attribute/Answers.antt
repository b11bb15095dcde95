use Rattle.std.proofs.Common.{◌≡◌, Bool, true, cond, List, ℕ, ◌+◌, sym, ◌∙◌, subst}
use Rattle.std.specs.Prelude.{IfOk}
use Rattle.pa_attrs.specs.Numbers.{HEADER}
use Rattle.wire_base.specs.Reading.{whole}
use Rattle.swima_reports.specs.ReportReading.{read_report}
use Rattle.swid_cli.specs.Front.{carries_report}
use Rattle.swid_cli.specs.Steps.{IsStep}
use Rattle.swid_cli.specs.Stream.{Goes, report_step}
use Rattle.command_text.specs.Text.{skipped_line}
use Rattle.swid_cli.proofs.mirror.step.take_attribute.Goals as goal

pub returns-clause-step : goal.returns-clause-step
returns-clause-step c =
    let attr = c.args.attr.now in
    let mirror = c.args.mirror.now in
    let read = whole (read_report attr.kind) (c.args.at + HEADER) attr.value in
    let carries : true ≡ carries_report attr.vendor attr.kind = sym c.if-not-carries_report.false ∙ c.carries_report-carries_report.ensures.report in
    subst (λ (test : Bool). IfOk c.take_report.result (λ made. (octets : List ℕ) → IsStep (cond test (report_step mirror octets c.args.len read) (Goes (skipped_line attr.vendor attr.kind) c.args.len mirror)) made c.take_report.new.mirror))
    carries c.take_report.ensures.step
