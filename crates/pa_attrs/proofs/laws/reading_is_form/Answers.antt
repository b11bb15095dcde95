use Rattle.pa_attrs.proofs.MessageLaws.{reading_is_form}
use Rattle.pa_attrs.proofs.laws.reading_is_form.Goals as goal

pub returns : goal.returns
returns c = record { law = reading_is_form }
