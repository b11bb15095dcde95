use Rattle.session_rules.proofs.WorkedSessions.{subscription_is_taken}
use Rattle.session_rules.proofs.laws.subscription_is_taken.Goals as goal

pub returns : goal.returns
returns c = record { law = subscription_is_taken }
