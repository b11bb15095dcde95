use Rattle.pa_attrs.proofs.FaultLaws.{fault_is_lowest}
use Rattle.pa_attrs.proofs.laws.fault_is_lowest.Goals as goal

pub returns : goal.returns
returns c = record { law = fault_is_lowest }
