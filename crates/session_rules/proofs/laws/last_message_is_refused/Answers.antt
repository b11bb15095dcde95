use Rattle.session_rules.proofs.WorkedSessions.{last_message_is_refused}
use Rattle.session_rules.proofs.laws.last_message_is_refused.Goals as goal

pub returns : goal.returns
returns c = record { law = last_message_is_refused }
