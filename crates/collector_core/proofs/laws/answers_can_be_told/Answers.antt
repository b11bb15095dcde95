use Rattle.collector_core.proofs.Telling.{answers_can_be_told}
use Rattle.collector_core.proofs.laws.answers_can_be_told.Goals as goal

pub returns : goal.returns
returns c = record { law = answers_can_be_told }
