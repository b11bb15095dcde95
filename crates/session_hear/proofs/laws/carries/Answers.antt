use Rattle.session_hear.proofs.Carriage.{carries}
use Rattle.session_hear.proofs.laws.carries.Goals as goal

pub returns : goal.returns
returns c = record { law = carries }
