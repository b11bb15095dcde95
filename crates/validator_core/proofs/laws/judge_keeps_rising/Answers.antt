use Rattle.validator_core.proofs.Judging.{judge_keeps_rising}
use Rattle.validator_core.proofs.laws.judge_keeps_rising.Goals as goal

pub returns : goal.returns
returns c = record { law = judge_keeps_rising }
