use Rattle.collector_core.proofs.Growing.{answers_stay}
use Rattle.collector_core.proofs.laws.answers_stay.Goals as goal

pub returns : goal.returns
returns c = record { law = answers_stay }
