use Rattle.pb_machine.proofs.Sending.{none_unexpected_at_end}
use Rattle.pb_machine.proofs.laws.none_unexpected_at_end.Goals as goal

pub returns : goal.returns
returns c = record { law = none_unexpected_at_end }
