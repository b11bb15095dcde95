use Rattle.command_options.proofs.WorkedWords.{fewest_of_collect}
use Rattle.command_options.proofs.laws.fewest_of_collect.Goals as goal

pub returns : goal.returns
returns c = record { law = fewest_of_collect }
