use Rattle.pb_batch.proofs.FrontLaws.{are_one_of_three}
use Rattle.pb_batch.proofs.laws.one_of_three.Goals as goal

pub returns : goal.returns
returns c = record { law = are_one_of_three }
