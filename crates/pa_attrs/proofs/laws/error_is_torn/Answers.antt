use Rattle.pa_attrs.proofs.ErrorLaws.{error_is_torn}
use Rattle.pa_attrs.proofs.laws.error_is_torn.Goals as goal

pub returns : goal.returns
returns c = record { law = error_is_torn }
