use Rattle.event_log.proofs.Keeping.{new_keeps_all}
use Rattle.event_log.proofs.laws.new_keeps_all.Goals as goal

pub returns : goal.returns
returns c = record { law = new_keeps_all }
