use Rattle.pa_attrs.proofs.OneOfTwo.{attribute_or_fault}
use Rattle.pa_attrs.proofs.laws.attribute_or_fault.Goals as goal

pub returns : goal.returns
returns c = record { law = attribute_or_fault }
