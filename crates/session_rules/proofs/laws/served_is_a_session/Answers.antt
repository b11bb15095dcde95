use Rattle.session_rules.proofs.Meaning.{served_is_a_session}
use Rattle.session_rules.proofs.laws.served_is_a_session.Goals as goal

pub returns : goal.returns
returns c = record { law = served_is_a_session }
