use Rattle.wire_base.proofs.Unescaping.{escaped_or_fault}
use Rattle.wire_base.proofs.laws.escaped_or_fault.Goals as goal

pub returns : goal.returns
returns c = record { law = escaped_or_fault }
