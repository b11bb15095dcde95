-- The octets copied so far are those of the turns gone over. Before the first mark come these
-- octets and those after them.
use Rattle.std.proofs.Common.{◌≡◌, ◌+◌, ◌-◌, ◌≤◌, length, map, take, drop}
use Rattle.wire_base.specs.InMemory.{octets_ahead, turn_of}
use Rattle.wire_base.specs.Turns.{turns_of}
use Rattle.wire_base.proofs.outside.no_fault_link.copy_octets.Given as goal

abbrev pub invariant-loop-count : goal.invariant-loop-count
invariant-loop-count l = record {
  copied : turns_of (take l.count l.buf) ≡ take l.count (map turn_of l.turns);
  ahead : octets_ahead (map turn_of l.turns) ≡ l.count + octets_ahead (drop l.count (map turn_of l.turns));
  within : l.count ≤ l.room;
  len : length l.buf ≡ length l.fn.buf;
}

abbrev pub decreases-loop-count : goal.decreases-loop-count
decreases-loop-count l = l.room - l.count
