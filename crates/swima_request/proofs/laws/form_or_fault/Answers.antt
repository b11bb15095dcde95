use Rattle.swima_request.proofs.FaultLaws.{form_or_fault}
use Rattle.swima_request.proofs.laws.form_or_fault.Goals as goal

pub returns : goal.returns
returns c = record { law = form_or_fault }
