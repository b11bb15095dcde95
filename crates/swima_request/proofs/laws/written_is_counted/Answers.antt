use Rattle.swima_request.proofs.Writing.{written_is_counted}
use Rattle.swima_request.proofs.laws.written_is_counted.Goals as goal

pub returns : goal.returns
returns c = record { law = written_is_counted }
