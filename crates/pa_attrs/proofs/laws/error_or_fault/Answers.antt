use Rattle.pa_attrs.proofs.OneOfTwo.{error_or_fault}
use Rattle.pa_attrs.proofs.laws.error_or_fault.Goals as goal

pub returns : goal.returns
returns c = record { law = error_or_fault }
