use Rattle.swima_request.proofs.StatusWriting.{form_is_counted}
use Rattle.swima_request.proofs.status_laws.status_form_is_counted.Goals as goal

pub returns : goal.returns
returns c = record { law = form_is_counted }
