use Rattle.swid_cli.proofs.Wording.{found_line}
use Rattle.swid_cli.proofs.command.is_command_line.Goals as goal

pub returns : goal.returns
returns c = record { known = rw c.is_some.ensures (found_line _ c.command_of.result c.command_of.ensures.said) }
