use Rattle.session_rules.proofs.Limit.{sessions_take_at_most}
use Rattle.session_rules.proofs.laws.sessions_take_at_most.Goals as goal

pub returns : goal.returns
returns c = record { law = sessions_take_at_most }
