use Rattle.std.proofs.Common.{◌++◌, List, ℕ, length, ap, sym, subst, ◌∙◌}
use Rattle.swima_reports.specs.ReportForm.{ReportForm}
use Rattle.swima_reports.specs.ReportType.{report_type}
use Rattle.swima_reports.specs.Written.{carried, written_report}
use Rattle.swima_reports.proofs.Writing.{written_is_counted, written_report_form}
use Rattle.swima_reports.proofs.write.write_report.Goals as goal

pub returns-clause-size : goal.returns-clause-size
returns-clause-size c =
    let made = c.in_ok-put_report.ensures.appended ∙ ap (λ (o : List ℕ). o ++ written_report c.args.report.now) c.in_ok-out.ensures.empty in
    ap (λ (o : List ℕ). length o) made ∙ written_is_counted c.args.report.now c.requires.stamps

pub returns-clause-form : goal.returns-clause-form
returns-clause-form c =
    let made = c.in_ok-put_report.ensures.appended ∙ ap (λ (o : List ℕ). o ++ written_report c.args.report.now) c.in_ok-out.ensures.empty in
    subst (λ (o : List ℕ). ReportForm (report_type c.args.report.now) (carried c.args.report.now) o) (sym made)
    (written_report_form c.args.report.now c.in_ok-put_report.ensures.writable)
