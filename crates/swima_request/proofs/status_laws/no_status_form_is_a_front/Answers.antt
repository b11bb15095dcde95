use Rattle.swima_request.proofs.StatusLaws.{no_form_is_a_front}
use Rattle.swima_request.proofs.status_laws.no_status_form_is_a_front.Goals as goal

pub returns : goal.returns
returns c = record { law = no_form_is_a_front }
