use Rattle.session_rules.proofs.WorkedSessions.{wanted_reports_end}
use Rattle.session_rules.proofs.laws.wanted_reports_end.Goals as goal

pub returns : goal.returns
returns c = record { law = wanted_reports_end }
