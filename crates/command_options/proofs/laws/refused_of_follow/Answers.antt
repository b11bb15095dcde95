use Rattle.command_options.proofs.WorkedWords.{refused_of_follow}
use Rattle.command_options.proofs.laws.refused_of_follow.Goals as goal

pub returns : goal.returns
returns c = record { law = refused_of_follow }
