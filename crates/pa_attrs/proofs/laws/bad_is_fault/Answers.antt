use Rattle.pa_attrs.proofs.FirstFaults.{bad_is_fault}
use Rattle.pa_attrs.proofs.laws.bad_is_fault.Goals as goal

pub returns : goal.returns
returns c = record { law = bad_is_fault }
