use Rattle.command_options.proofs.WorkedWords.{refused_of_collect}
use Rattle.command_options.proofs.laws.refused_of_collect.Goals as goal

pub returns : goal.returns
returns c = record { law = refused_of_collect }
