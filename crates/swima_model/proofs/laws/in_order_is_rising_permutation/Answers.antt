use Rattle.swima_model.proofs.Placing.{in_order_is_rising_permutation}
use Rattle.swima_model.proofs.laws.in_order_is_rising_permutation.Goals as goal

pub returns : goal.returns
returns c = record { law = in_order_is_rising_permutation }
