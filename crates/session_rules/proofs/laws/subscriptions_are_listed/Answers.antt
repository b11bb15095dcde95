use Rattle.session_rules.proofs.WorkedSessions.{subscriptions_are_listed}
use Rattle.session_rules.proofs.laws.subscriptions_are_listed.Goals as goal

pub returns : goal.returns
returns c = record { law = subscriptions_are_listed }
