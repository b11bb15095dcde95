use Rattle.session_rules.proofs.WorkedSessions.{clearing_is_taken}
use Rattle.session_rules.proofs.laws.clearing_is_taken.Goals as goal

pub returns : goal.returns
returns c = record { law = clearing_is_taken }
