use Rattle.std.proofs.Common.{arith}
use Rattle.collector_core.proofs.records.are_octets.Goals as goal

pub returns : goal.returns
returns c = record { octets = λ i. omega (arith, c.type_inv.octets i) }
