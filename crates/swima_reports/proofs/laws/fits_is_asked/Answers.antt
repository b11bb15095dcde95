use Rattle.swima_reports.proofs.Fitting.{fits_is_asked}
use Rattle.swima_reports.proofs.laws.fits_is_asked.Goals as goal

pub returns : goal.returns
returns c = record { law = fits_is_asked }
