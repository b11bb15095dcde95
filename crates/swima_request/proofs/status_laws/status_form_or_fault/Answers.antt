use Rattle.swima_request.proofs.StatusLaws.{form_or_fault}
use Rattle.swima_request.proofs.status_laws.status_form_or_fault.Goals as goal

pub returns : goal.returns
returns c = record { law = form_or_fault }
