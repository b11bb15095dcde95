use Rattle.session_rules.proofs.WorkedSessions.{idle_turns_end}
use Rattle.session_rules.proofs.laws.idle_turns_end.Goals as goal

pub returns : goal.returns
returns c = record { law = idle_turns_end }
