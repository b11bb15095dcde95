use Rattle.swima_request.proofs.StatusLaws.{written_is_read}
use Rattle.swima_request.proofs.status_laws.written_status_is_read.Goals as goal

pub returns : goal.returns
returns c = record { law = written_is_read }
