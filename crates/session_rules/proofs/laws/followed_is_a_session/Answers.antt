use Rattle.session_rules.proofs.Meaning.{followed_is_a_session}
use Rattle.session_rules.proofs.laws.followed_is_a_session.Goals as goal

pub returns : goal.returns
returns c = record { law = followed_is_a_session }
