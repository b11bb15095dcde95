use Rattle.pb_batch.proofs.Bodies.{bodies_fit}
use Rattle.pb_batch.proofs.laws.bodies_fit.Goals as goal

pub returns : goal.returns
returns c = record { law = bodies_fit }
