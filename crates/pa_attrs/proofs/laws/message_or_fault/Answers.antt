use Rattle.pa_attrs.proofs.OneOfTwo.{message_or_fault}
use Rattle.pa_attrs.proofs.laws.message_or_fault.Goals as goal

pub returns : goal.returns
returns c = record { law = message_or_fault }
