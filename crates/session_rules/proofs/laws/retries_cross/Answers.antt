use Rattle.session_rules.proofs.WorkedSessions.{retries_cross}
use Rattle.session_rules.proofs.laws.retries_cross.Goals as goal

pub returns : goal.returns
returns c = record { law = retries_cross }
