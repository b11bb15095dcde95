use Rattle.session_rules.proofs.WorkedSessions.{validator_answers}
use Rattle.session_rules.proofs.laws.validator_answers.Goals as goal

pub returns : goal.returns
returns c = record { law = validator_answers }
