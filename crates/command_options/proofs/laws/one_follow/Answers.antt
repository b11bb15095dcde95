use Rattle.command_options.proofs.FollowTaken.{one_follow}
use Rattle.command_options.proofs.laws.one_follow.Goals as goal

pub returns : goal.returns
returns c = record { law = one_follow }
