use Rattle.pa_attrs.proofs.Writing.{written_is_counted}
use Rattle.pa_attrs.proofs.laws.written_is_counted.Goals as goal

pub returns : goal.returns
returns c = record { law = written_is_counted }
