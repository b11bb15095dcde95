use Rattle.collector_core.proofs.Answered.{answers_are_of_the_history}
use Rattle.collector_core.proofs.laws.answers_are_of_the_history.Goals as goal

pub returns : goal.returns
returns c = record { law = answers_are_of_the_history }
