use Rattle.swima_reports.proofs.Writing.{carried_is_report}
use Rattle.swima_reports.proofs.laws.carried_is_report.Goals as goal

pub returns : goal.returns
returns c = record { law = carried_is_report }
