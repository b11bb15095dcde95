use Rattle.swima_request.proofs.StatusWriting.{counts_fit}
use Rattle.swima_request.proofs.status_laws.status_counts_fit.Goals as goal

pub returns : goal.returns
returns c = record { law = counts_fit }
