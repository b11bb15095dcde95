use Rattle.swima_request.proofs.RequestLaws.{reading_is_form}
use Rattle.swima_request.proofs.laws.reading_is_form.Goals as goal

pub returns : goal.returns
returns c = record { law = reading_is_form }
