use Rattle.swima_subs.proofs.Keeping.{subs_stay}
use Rattle.swima_subs.proofs.laws.subs_stay.Goals as goal

pub returns : goal.returns
returns c = record { law = subs_stay }
