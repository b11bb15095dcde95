use Rattle.session_rules.proofs.WorkedSessions.{validator_ends}
use Rattle.session_rules.proofs.laws.validator_ends.Goals as goal

pub returns : goal.returns
returns c = record { law = validator_ends }
