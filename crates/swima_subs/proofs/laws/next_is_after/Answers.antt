use Rattle.swima_subs.proofs.Refusing.{next_is_after}
use Rattle.swima_subs.proofs.laws.next_is_after.Goals as goal

pub returns : goal.returns
returns c = record { law = next_is_after }
