use Rattle.session_rules.proofs.WorkedSessions.{last_octets_end}
use Rattle.session_rules.proofs.laws.last_octets_end.Goals as goal

pub returns : goal.returns
returns c = record { law = last_octets_end }
