use Rattle.swid_cli.proofs.Answered.{printed_mirror_is_right}
use Rattle.swid_cli.proofs.laws.printed_mirror_is_right.Goals as goal

pub returns : goal.returns
returns c = record { law = printed_mirror_is_right }
