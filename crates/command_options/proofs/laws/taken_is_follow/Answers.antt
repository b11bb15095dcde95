use Rattle.command_options.proofs.FollowTaken.{follow_says}
use Rattle.command_options.proofs.laws.taken_is_follow.Goals as goal

pub returns : goal.returns
returns c = record { law = follow_says }
