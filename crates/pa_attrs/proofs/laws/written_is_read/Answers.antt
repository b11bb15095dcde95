use Rattle.pa_attrs.proofs.MessageLaws.{written_is_read}
use Rattle.pa_attrs.proofs.laws.written_is_read.Goals as goal

pub returns : goal.returns
returns c = record { law = written_is_read }
