use Rattle.pb_batch.proofs.FrontLaws.{bad_is_fault}
use Rattle.pb_batch.proofs.laws.bad_is_fault.Goals as goal

pub returns : goal.returns
returns c = record { law = bad_is_fault }
