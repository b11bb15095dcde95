-- The attributes that were read, and those still to be read, are all of the message.
use Rattle.std.proofs.Common.{◌≡◌, ◌+◌, length, drop}
use Rattle.pa_attrs.specs.MessageReading.{attributes}
use Rattle.pa_attrs.proofs.Walking.{Walks}
use Rattle.pa_attrs.proofs.read.attributes.Given as goal

abbrev pub invariant-loop-rest : goal.invariant-loop-rest
invariant-loop-rest l = record {
  so_far : Walks l.supported (attributes l.supported 64 8 (drop 8 l.bytes)) l.room l.at l.rest l.attrs l.answer;
  places : l.at + length l.rest ≡ length l.bytes;
}

abbrev pub decreases-loop-rest : goal.decreases-loop-rest
decreases-loop-rest l = length l.rest
