use Rattle.pa_attrs.proofs.ErrorLengths.{swima_error_is_short}
use Rattle.pa_attrs.proofs.laws.swima_error_is_short.Goals as goal

pub returns : goal.returns
returns c = record { law = swima_error_is_short }
