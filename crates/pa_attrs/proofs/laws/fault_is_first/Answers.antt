use Rattle.pa_attrs.proofs.FirstFaults.{fault_is_first}
use Rattle.pa_attrs.proofs.laws.fault_is_first.Goals as goal

pub returns : goal.returns
returns c = record { law = fault_is_first }
