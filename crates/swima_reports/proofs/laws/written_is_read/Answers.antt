use Rattle.swima_reports.proofs.Writing.{written_is_read}
use Rattle.swima_reports.proofs.laws.written_is_read.Goals as goal

pub returns : goal.returns
returns c = record { law = written_is_read }
