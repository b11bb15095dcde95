use Rattle.pb_batch.proofs.FrontLaws.{written_is_read}
use Rattle.pb_batch.proofs.laws.written_is_read.Goals as goal

pub returns : goal.returns
returns c = record { law = written_is_read }
