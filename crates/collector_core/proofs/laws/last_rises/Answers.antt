use Rattle.collector_core.proofs.Along.{last_rises}
use Rattle.collector_core.proofs.laws.last_rises.Goals as goal

pub returns : goal.returns
returns c = record { law = last_rises }
