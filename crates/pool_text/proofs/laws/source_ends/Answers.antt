use Rattle.pool_text.proofs.WorkedTexts.{source_ends}
use Rattle.pool_text.proofs.laws.source_ends.Goals as goal

pub returns : goal.returns
returns c = record { law = source_ends }
