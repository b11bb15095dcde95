use Rattle.command_options.proofs.WorkedWords.{names_of_collect}
use Rattle.command_options.proofs.laws.names_of_collect.Goals as goal

pub returns : goal.returns
returns c = record { law = names_of_collect }
