-- The number so far is that of the octets gone over.
use Rattle.std.proofs.Common.{◌≡◌, ◌<◌, ◌^◌, take}
use Rattle.wire_base.specs.Numbers.{number_of}
use Rattle.wire_base.proofs.layout.numbers.number_of.Given as goal

abbrev pub invariant-loop-octet : goal.invariant-loop-octet
invariant-loop-octet l = (l.number ≡ number_of (take l.octet-index l.octets)) × (l.number < 256 ^ l.octet-index)
