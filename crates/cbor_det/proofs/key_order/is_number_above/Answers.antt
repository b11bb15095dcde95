-- Integers of one sign.
use Rattle.cbor_det.proofs.Integers.{above_from_zero, above_below_zero}
use Rattle.cbor_det.proofs.key_order.is_number_above.Goals as goal

pub returns-else-second-ge0 : goal.returns-else-second-ge0
returns-else-second-ge0 c = record {
  above = above_below_zero c.args.first c.args.second c.ranges.first c.ranges.second c.if-first-lt0.true c.if-second-ge0.false;
}

pub returns-then-second-ge0-2 : goal.returns-then-second-ge0-2
returns-then-second-ge0-2 c = record {
  above = above_from_zero c.args.first c.args.second c.ranges.first c.ranges.second c.if-first-lt0.false c.if-second-ge0-2.true;
}
