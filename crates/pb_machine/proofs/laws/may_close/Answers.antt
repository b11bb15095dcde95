use Rattle.pb_machine.proofs.Sending.{may_close}
use Rattle.pb_machine.proofs.laws.may_close.Goals as goal

pub returns : goal.returns
returns c = record { law = may_close }
