-- What is counted is right for the records gone over.
use Rattle.std.proofs.Common.{◌≡◌, ◌≤◌, length, take}
use Rattle.validator_core.specs.Further.{OthersAreHeld, from}
use Rattle.validator_core.proofs.in_place.further.Given as goal

abbrev pub invariant-loop-record : goal.invariant-loop-record
invariant-loop-record l = record {
  others : OthersAreHeld l.records l.next (take l.record-index l.given);
  count : l.count ≡ length (from l.next (take l.record-index l.given));
  few : l.count ≤ l.record-index;
}
