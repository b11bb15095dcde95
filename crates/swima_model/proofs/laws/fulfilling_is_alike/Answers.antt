use Rattle.swima_model.proofs.Fulfils.{fulfilling_is_alike}
use Rattle.swima_model.proofs.laws.fulfilling_is_alike.Goals as goal

pub returns : goal.returns
returns c = record { law = fulfilling_is_alike }
