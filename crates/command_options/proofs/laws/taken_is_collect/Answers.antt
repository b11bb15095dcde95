use Rattle.command_options.proofs.CollectTaken.{collect_says}
use Rattle.command_options.proofs.laws.taken_is_collect.Goals as goal

pub returns : goal.returns
returns c = record { law = collect_says }
