use Rattle.pb_batch.proofs.FrontLaws.{lowest_counts}
use Rattle.pb_batch.proofs.laws.lowest_place_counts.Goals as goal

pub returns : goal.returns
returns c = record { law = lowest_counts }
