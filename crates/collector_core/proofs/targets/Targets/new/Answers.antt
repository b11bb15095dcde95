use Rattle.collector_core.proofs.Wanting.{sorted_wanted}
use Rattle.collector_core.proofs.targets.Targets.new.Goals as goal

pub returns : goal.returns
returns c = record { asks = sorted_wanted c.args.targets.now _ _ c.in_ok-rising.ensures.octets c.sort_unstable.ensures.permutation }
