use Rattle.session_world.proofs.Emptying.{nothing_waits_after_runs}
use Rattle.session_world.proofs.laws.nothing_waits_after_runs.Goals as goal

pub returns : goal.returns
returns c = record { law = nothing_waits_after_runs }
