use Rattle.swima_subs.proofs.Refusing.{denied_is_full}
use Rattle.swima_subs.proofs.laws.denied_is_full.Goals as goal

pub returns : goal.returns
returns c = record { law = denied_is_full }
