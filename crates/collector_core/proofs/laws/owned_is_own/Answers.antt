use Rattle.collector_core.proofs.Owning.{owned_is_own}
use Rattle.collector_core.proofs.laws.owned_is_own.Goals as goal

pub returns : goal.returns
returns c = record { law = owned_is_own }
