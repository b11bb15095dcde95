use Rattle.session_rules.proofs.WorkedSessions.{other_version_is_refused}
use Rattle.session_rules.proofs.laws.other_version_is_refused.Goals as goal

pub returns : goal.returns
returns c = record { law = other_version_is_refused }
