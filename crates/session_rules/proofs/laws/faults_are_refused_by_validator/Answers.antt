use Rattle.session_rules.proofs.WorkedSessions.{faults_are_refused_by_validator}
use Rattle.session_rules.proofs.laws.faults_are_refused_by_validator.Goals as goal

pub returns : goal.returns
returns c = record { law = faults_are_refused_by_validator }
