use Rattle.session_rules.proofs.WorkedSessions.{requests_are_answered}
use Rattle.session_rules.proofs.laws.requests_are_answered.Goals as goal

pub returns : goal.returns
returns c = record { law = requests_are_answered }
