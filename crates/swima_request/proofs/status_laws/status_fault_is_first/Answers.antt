use Rattle.swima_request.proofs.StatusLaws.{fault_is_first}
use Rattle.swima_request.proofs.status_laws.status_fault_is_first.Goals as goal

pub returns : goal.returns
returns c = record { law = fault_is_first }
