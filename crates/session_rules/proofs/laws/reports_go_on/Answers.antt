use Rattle.session_rules.proofs.Running.{reports_go_on}
use Rattle.session_rules.proofs.laws.reports_go_on.Goals as goal

pub returns : goal.returns
returns c = record { law = reports_go_on }
