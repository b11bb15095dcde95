use Rattle.session_rules.proofs.SessionRuns.{sessions_are_runs}
use Rattle.session_rules.proofs.laws.sessions_are_runs.Goals as goal

pub returns : goal.returns
returns c = record { law = sessions_are_runs }
