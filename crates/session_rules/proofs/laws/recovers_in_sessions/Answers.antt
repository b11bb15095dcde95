use Rattle.session_rules.proofs.Recovering.{recovers_in_sessions}
use Rattle.session_rules.proofs.laws.recovers_in_sessions.Goals as goal

pub returns : goal.returns
returns c = record { law = recovers_in_sessions }
