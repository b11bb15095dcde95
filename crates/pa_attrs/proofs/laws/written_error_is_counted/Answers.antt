use Rattle.pa_attrs.proofs.ErrorLengths.{written_error_is_counted}
use Rattle.pa_attrs.proofs.laws.written_error_is_counted.Goals as goal

pub returns : goal.returns
returns c = record { law = written_error_is_counted }
