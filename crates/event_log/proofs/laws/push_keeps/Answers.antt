use Rattle.event_log.proofs.Keeping.{push_keeps}
use Rattle.event_log.proofs.laws.push_keeps.Goals as goal

pub returns : goal.returns
returns c = record { law = push_keeps }
