use Rattle.session_rules.proofs.WorkedSessions.{retries_are_heard}
use Rattle.session_rules.proofs.laws.retries_are_heard.Goals as goal

pub returns : goal.returns
returns c = record { law = retries_are_heard }
