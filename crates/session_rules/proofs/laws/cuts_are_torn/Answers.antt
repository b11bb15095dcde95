use Rattle.session_rules.proofs.WorkedSessions.{cuts_are_torn}
use Rattle.session_rules.proofs.laws.cuts_are_torn.Goals as goal

pub returns : goal.returns
returns c = record { law = cuts_are_torn }
