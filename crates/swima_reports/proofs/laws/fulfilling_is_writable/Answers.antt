use Rattle.swima_reports.proofs.Fitting.{fulfilling_is_writable}
use Rattle.swima_reports.proofs.laws.fulfilling_is_writable.Goals as goal

pub returns : goal.returns
returns c = record { law = fulfilling_is_writable }
