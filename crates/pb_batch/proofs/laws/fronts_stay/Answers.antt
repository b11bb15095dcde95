use Rattle.pb_batch.proofs.FrontLaws.{fronts_stay}
use Rattle.pb_batch.proofs.laws.fronts_stay.Goals as goal

pub returns : goal.returns
returns c = record { law = fronts_stay }
