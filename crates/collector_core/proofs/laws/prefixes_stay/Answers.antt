use Rattle.collector_core.proofs.Prefixes.{prefixes_stay}
use Rattle.collector_core.proofs.laws.prefixes_stay.Goals as goal

pub returns : goal.returns
returns c = record { law = prefixes_stay }
