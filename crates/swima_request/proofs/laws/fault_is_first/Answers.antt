use Rattle.swima_request.proofs.FaultLaws.{fault_is_first}
use Rattle.swima_request.proofs.laws.fault_is_first.Goals as goal

pub returns : goal.returns
returns c = record { law = fault_is_first }
