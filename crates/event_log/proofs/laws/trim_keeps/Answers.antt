use Rattle.event_log.proofs.Keeping.{trim_keeps}
use Rattle.event_log.proofs.laws.trim_keeps.Goals as goal

pub returns : goal.returns
returns c = record { law = trim_keeps }
