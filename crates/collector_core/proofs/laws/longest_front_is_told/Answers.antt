use Rattle.collector_core.proofs.Fitting.{longest_front_is_told}
use Rattle.collector_core.proofs.laws.longest_front_is_told.Goals as goal

pub returns : goal.returns
returns c = record { law = longest_front_is_told }
