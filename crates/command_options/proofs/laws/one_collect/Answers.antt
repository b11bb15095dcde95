use Rattle.command_options.proofs.CollectTaken.{one_collect}
use Rattle.command_options.proofs.laws.one_collect.Goals as goal

pub returns : goal.returns
returns c = record { law = one_collect }
