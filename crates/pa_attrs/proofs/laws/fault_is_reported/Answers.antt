use Rattle.pa_attrs.proofs.Reported.{fault_is_reported}
use Rattle.pa_attrs.proofs.laws.fault_is_reported.Goals as goal

pub returns : goal.returns
returns c = record { law = fault_is_reported }
