use Rattle.swima_request.proofs.StatusLaws.{reading_is_form}
use Rattle.swima_request.proofs.status_laws.status_reading_is_form.Goals as goal

pub returns : goal.returns
returns c = record { law = reading_is_form }
