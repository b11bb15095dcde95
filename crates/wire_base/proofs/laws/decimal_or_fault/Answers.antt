use Rattle.wire_base.proofs.Decimals.{decimal_or_fault}
use Rattle.wire_base.proofs.laws.decimal_or_fault.Goals as goal

pub returns : goal.returns
returns c = record { law = decimal_or_fault }
