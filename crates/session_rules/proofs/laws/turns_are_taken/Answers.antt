use Rattle.session_rules.proofs.WorkedSessions.{turns_are_taken}
use Rattle.session_rules.proofs.laws.turns_are_taken.Goals as goal

pub returns : goal.returns
returns c = record { law = turns_are_taken }
