use Rattle.session_rules.proofs.WorkedSessions.{doubled_is_asked_thrice}
use Rattle.session_rules.proofs.laws.doubled_is_asked_thrice.Goals as goal

pub returns : goal.returns
returns c = record { law = doubled_is_asked_thrice }
