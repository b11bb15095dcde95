use Rattle.std.proofs.Common.{arith}
use Rattle.swima_reports.proofs.Writing.{count_within, consults_within, form_is_counted, has_stamps}
use Rattle.conformance_messages.proofs.report.written_again.Goals as goal

-- A report that was read meets what writing asks for.
pub write_report-requires-clause-count : goal.write_report-requires-clause-count
write_report-requires-clause-count c = let form = c.in_ok-report.ensures.found in count_within c.in_ok-report.report c.args.value.now form.form

pub write_report-requires-clause-within : goal.write_report-requires-clause-within
write_report-requires-clause-within c =
    let form = c.in_ok-report.ensures.found in
    omega (arith, c.requires.within, form_is_counted c.args.attr_type c.in_ok-report.report c.args.value.now form)

pub write_report-requires-clause-stamps : goal.write_report-requires-clause-stamps
write_report-requires-clause-stamps c = let form = c.in_ok-report.ensures.found in has_stamps c.in_ok-report.report form.written

pub write_report-requires-clause-consulted : goal.write_report-requires-clause-consulted
write_report-requires-clause-consulted c = let form = c.in_ok-report.ensures.found in consults_within c.in_ok-report.report form.written
