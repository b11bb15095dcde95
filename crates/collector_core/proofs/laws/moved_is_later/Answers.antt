use Rattle.collector_core.proofs.Along.{moved_is_later}
use Rattle.collector_core.proofs.laws.moved_is_later.Goals as goal

pub returns : goal.returns
returns c = record { law = moved_is_later }
