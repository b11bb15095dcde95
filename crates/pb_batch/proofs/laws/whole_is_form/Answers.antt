use Rattle.pb_batch.proofs.FrontLaws.{whole_is_form}
use Rattle.pb_batch.proofs.laws.whole_is_form.Goals as goal

pub returns : goal.returns
returns c = record { law = whole_is_form }
