use Rattle.collector_core.proofs.WrittenAnswers.{answers_are_read_back}
use Rattle.collector_core.proofs.laws.answers_are_read_back.Goals as goal

pub returns : goal.returns
returns c = record { law = answers_are_read_back }
