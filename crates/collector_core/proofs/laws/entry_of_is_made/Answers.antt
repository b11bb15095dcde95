use Rattle.collector_core.proofs.Editing.{entry_made}
use Rattle.collector_core.proofs.laws.entry_of_is_made.Goals as goal

pub returns : goal.returns
returns c = record { law = entry_made }
