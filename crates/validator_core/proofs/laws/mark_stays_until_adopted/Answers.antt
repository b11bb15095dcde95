use Rattle.validator_core.proofs.Recovering.{mark_stays_until_adopted}
use Rattle.validator_core.proofs.laws.mark_stays_until_adopted.Goals as goal

pub returns : goal.returns
returns c = record { law = mark_stays_until_adopted }
