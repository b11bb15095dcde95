use Rattle.session_rules.proofs.WorkedSessions.{subscription_waits}
use Rattle.session_rules.proofs.laws.subscription_waits.Goals as goal

pub returns : goal.returns
returns c = record { law = subscription_waits }
