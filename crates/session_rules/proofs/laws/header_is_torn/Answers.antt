use Rattle.session_rules.proofs.WorkedSessions.{header_is_torn}
use Rattle.session_rules.proofs.laws.header_is_torn.Goals as goal

pub returns : goal.returns
returns c = record { law = header_is_torn }
