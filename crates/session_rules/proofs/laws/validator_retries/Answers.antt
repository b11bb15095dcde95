use Rattle.session_rules.proofs.WorkedSessions.{validator_retries}
use Rattle.session_rules.proofs.laws.validator_retries.Goals as goal

pub returns : goal.returns
returns c = record { law = validator_retries }
