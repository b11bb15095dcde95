use Rattle.swima_reports.proofs.Fitting.{read_fits}
use Rattle.swima_reports.proofs.laws.read_fits.Goals as goal

pub returns : goal.returns
returns c = record { law = read_fits }
