use Rattle.swima_request.proofs.Writing.{form_is_counted}
use Rattle.swima_request.proofs.laws.form_is_counted.Goals as goal

pub returns : goal.returns
returns c = record { law = form_is_counted }
