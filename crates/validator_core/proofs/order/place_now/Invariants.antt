-- Each step goes further, and not beyond `to` unless it ends there.
use Rattle.std.proofs.Common.{◌-◌}
use Rattle.validator_core.proofs.order.place_now.Given as goal

abbrev pub decreases-loop-from : goal.decreases-loop-from
decreases-loop-from l = l.to - l.from
