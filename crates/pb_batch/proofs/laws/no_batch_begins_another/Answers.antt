use Rattle.pb_batch.proofs.FrontLaws.{none_begins_another}
use Rattle.pb_batch.proofs.laws.no_batch_begins_another.Goals as goal

pub returns : goal.returns
returns c = record { law = none_begins_another }
