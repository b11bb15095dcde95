use Rattle.session_rules.proofs.WorkedSessions.{last_attribute_is_answered}
use Rattle.session_rules.proofs.laws.last_attribute_is_answered.Goals as goal

pub returns : goal.returns
returns c = record { law = last_attribute_is_answered }
