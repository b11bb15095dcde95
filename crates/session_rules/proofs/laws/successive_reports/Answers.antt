use Rattle.session_rules.proofs.Running.{successive_reports}
use Rattle.session_rules.proofs.laws.successive_reports.Goals as goal

pub returns : goal.returns
returns c = record { law = successive_reports }
