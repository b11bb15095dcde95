use Rattle.pb_batch.proofs.FrontLaws.{lengths_count}
use Rattle.pb_batch.proofs.laws.lengths_count.Goals as goal

pub returns : goal.returns
returns c = record { law = lengths_count }
