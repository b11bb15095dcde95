use Rattle.session_rules.proofs.WorkedSessions.{inventory_is_adopted}
use Rattle.session_rules.proofs.laws.inventory_is_adopted.Goals as goal

pub returns : goal.returns
returns c = record { law = inventory_is_adopted }
