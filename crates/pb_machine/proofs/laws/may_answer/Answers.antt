use Rattle.pb_machine.proofs.Sending.{may_answer}
use Rattle.pb_machine.proofs.laws.may_answer.Goals as goal

pub returns : goal.returns
returns c = record { law = may_answer }
