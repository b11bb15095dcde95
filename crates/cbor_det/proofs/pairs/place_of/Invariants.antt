-- The key is above those before the low place, and below those from the high one on.
use Rattle.std.proofs.Common.{◌≤◌, ◌-◌, length, take, drop}
use Rattle.cbor_det.specs.Places.{AreBelow}
use Rattle.cbor_det.specs.Spelling.{IsBelow}
use Rattle.cbor_det.specs.View.{view, listed}
use Rattle.cbor_det.proofs.pairs.place_of.Given as goal

abbrev pub invariant-loop-low : goal.invariant-loop-low
invariant-loop-low l = record {
  order : l.low ≤ l.high;
  within : l.high ≤ length l.pairs;
  front : AreBelow (listed (take l.low l.pairs)) (view l.key.item);
  back : IsBelow (view l.key.item) (listed (drop l.high l.pairs));
}

abbrev pub decreases-loop-low : goal.decreases-loop-low
decreases-loop-low l = l.high - l.low
