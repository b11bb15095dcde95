use Rattle.collector_core.proofs.Fronts.{fronts_are_legal}
use Rattle.collector_core.proofs.laws.fronts_are_legal.Goals as goal

pub returns : goal.returns
returns c = record { law = fronts_are_legal }
