use Rattle.pool_text.proofs.WorkedTexts.{inventory_is_followed}
use Rattle.pool_text.proofs.laws.inventory_is_followed.Goals as goal

pub returns : goal.returns
returns c = record { law = inventory_is_followed }
