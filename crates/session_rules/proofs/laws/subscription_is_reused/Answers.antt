use Rattle.session_rules.proofs.WorkedSessions.{subscription_is_reused}
use Rattle.session_rules.proofs.laws.subscription_is_reused.Goals as goal

pub returns : goal.returns
returns c = record { law = subscription_is_reused }
