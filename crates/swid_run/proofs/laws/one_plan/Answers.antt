use Rattle.swid_run.proofs.OnePlanLaw.{one_plan}
use Rattle.swid_run.proofs.laws.one_plan.Goals as goal

pub returns : goal.returns
returns c = record { law = one_plan }
