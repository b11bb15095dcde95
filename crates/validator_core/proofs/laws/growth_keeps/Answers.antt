use Rattle.validator_core.proofs.Growing.{growth_keeps_right, growth_keeps_answers, honest_growth_is_later}
use Rattle.validator_core.proofs.laws.growth_keeps.Goals as goal

pub returns : goal.returns
returns c = record { right = growth_keeps_right; answers = growth_keeps_answers; honest = honest_growth_is_later }
