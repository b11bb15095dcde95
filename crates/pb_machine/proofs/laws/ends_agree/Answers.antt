use Rattle.pb_machine.proofs.Agreement.{ends_agree}
use Rattle.pb_machine.proofs.laws.ends_agree.Goals as goal

pub returns : goal.returns
returns c = record { law = ends_agree }
