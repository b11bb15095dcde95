use Rattle.swima_model.proofs.Repeats.{doubled_is_least_repeated}
use Rattle.swima_model.proofs.laws.doubled_is_least_repeated.Goals as goal

pub returns : goal.returns
returns c = record { law = doubled_is_least_repeated }
