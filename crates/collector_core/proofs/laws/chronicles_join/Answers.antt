use Rattle.collector_core.proofs.Joining.{chronicles_join}
use Rattle.collector_core.proofs.laws.chronicles_join.Goals as goal

pub returns : goal.returns
returns c = record { law = chronicles_join }
