use Rattle.session_rules.proofs.WorkedSessions.{peer_ends}
use Rattle.session_rules.proofs.laws.peer_ends.Goals as goal

pub returns : goal.returns
returns c = record { law = peer_ends }
