use Rattle.std.proofs.Common.{arith}
use Rattle.wire_base.proofs.NumberFacts.{has_room}
use Rattle.wire_base.proofs.layout.numbers.number_of.Goals as goal

pub overflow_mul-number : goal.overflow_mul-number
overflow_mul-number c = omega (arith, has_room c.loop-octet.octet-index c.loop-octet.number (omega (arith, c.requires, c.loop-octet-test.true)) c.loop-octet.invariant.1)
