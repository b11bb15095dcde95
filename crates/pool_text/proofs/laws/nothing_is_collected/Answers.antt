use Rattle.pool_text.proofs.WorkedTexts.{nothing_is_collected}
use Rattle.pool_text.proofs.laws.nothing_is_collected.Goals as goal

pub returns : goal.returns
returns c = record { law = nothing_is_collected }
