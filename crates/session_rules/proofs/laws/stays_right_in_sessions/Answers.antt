use Rattle.session_rules.proofs.AnySession.{stays_right_in_sessions}
use Rattle.session_rules.proofs.laws.stays_right_in_sessions.Goals as goal

pub returns : goal.returns
returns c = record { law = stays_right_in_sessions }
