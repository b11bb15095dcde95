use Rattle.pa_attrs.proofs.ErrorLaws.{written_error_is_read}
use Rattle.pa_attrs.proofs.laws.written_error_is_read.Goals as goal

pub returns : goal.returns
returns c = record { law = written_error_is_read }
