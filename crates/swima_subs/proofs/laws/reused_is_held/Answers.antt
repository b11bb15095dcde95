use Rattle.swima_subs.proofs.Refusing.{reused_is_held}
use Rattle.swima_subs.proofs.laws.reused_is_held.Goals as goal

pub returns : goal.returns
returns c = record { law = reused_is_held }
