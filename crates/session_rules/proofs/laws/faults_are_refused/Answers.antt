use Rattle.session_rules.proofs.WorkedSessions.{faults_are_refused}
use Rattle.session_rules.proofs.laws.faults_are_refused.Goals as goal

pub returns : goal.returns
returns c = record { law = faults_are_refused }
