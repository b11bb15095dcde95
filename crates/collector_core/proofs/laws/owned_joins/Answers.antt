use Rattle.collector_core.proofs.Owning.{owned_joins}
use Rattle.collector_core.proofs.laws.owned_joins.Goals as goal

pub returns : goal.returns
returns c = record { law = owned_joins }
