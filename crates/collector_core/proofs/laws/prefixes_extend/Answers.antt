use Rattle.collector_core.proofs.Prefixes.{prefixes_extend}
use Rattle.collector_core.proofs.laws.prefixes_extend.Goals as goal

pub returns : goal.returns
returns c = record { law = prefixes_extend }
