use Rattle.swima_request.proofs.StatusWriting.{written_is_counted}
use Rattle.swima_request.proofs.status_laws.written_status_is_counted.Goals as goal

pub returns : goal.returns
returns c = record { law = written_is_counted }
