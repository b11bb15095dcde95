use Rattle.pb_machine.proofs.Agreement.{only_go_moves}
use Rattle.pb_machine.proofs.laws.only_go_moves.Goals as goal

pub returns : goal.returns
returns c = record { law = only_go_moves }
