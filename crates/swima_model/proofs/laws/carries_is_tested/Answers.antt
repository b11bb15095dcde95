use Rattle.swima_model.proofs.Carrying.{carries_is_tested}
use Rattle.swima_model.proofs.laws.carries_is_tested.Goals as goal

pub returns : goal.returns
returns c = record { law = carries_is_tested }
