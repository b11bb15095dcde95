use Rattle.session_rules.proofs.Meaning.{one_outcome}
use Rattle.session_rules.proofs.laws.one_outcome.Goals as goal

pub returns : goal.returns
returns c = record { law = one_outcome }
