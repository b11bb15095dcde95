use Rattle.session_rules.proofs.WorkedSessions.{too_large_is_answered}
use Rattle.session_rules.proofs.laws.too_large_is_answered.Goals as goal

pub returns : goal.returns
returns c = record { law = too_large_is_answered }
