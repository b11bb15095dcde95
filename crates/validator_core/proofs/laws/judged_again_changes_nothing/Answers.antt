use Rattle.validator_core.proofs.Again.{judged_again_changes_nothing}
use Rattle.validator_core.proofs.laws.judged_again_changes_nothing.Goals as goal

pub returns : goal.returns
returns c = record { law = judged_again_changes_nothing }
