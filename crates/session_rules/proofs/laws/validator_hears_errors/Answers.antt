use Rattle.session_rules.proofs.WorkedSessions.{validator_hears_errors}
use Rattle.session_rules.proofs.laws.validator_hears_errors.Goals as goal

pub returns : goal.returns
returns c = record { law = validator_hears_errors }
