use Rattle.pool_text.proofs.WorkedTexts.{source_fails}
use Rattle.pool_text.proofs.laws.source_fails.Goals as goal

pub returns : goal.returns
returns c = record { law = source_fails }
