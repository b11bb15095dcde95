use Rattle.collector_core.proofs.Fits.{answers_are_reports_or_sizes}
use Rattle.collector_core.proofs.laws.answers_are_reports_or_sizes.Goals as goal

pub returns : goal.returns
returns c = record { law = answers_are_reports_or_sizes }
