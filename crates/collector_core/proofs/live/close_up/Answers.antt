use Rattle.std.proofs.Common.{◌+◌}
use Rattle.collector_core.proofs.live.close_up.Goals as goal

pub returns-clause-places : goal.returns-clause-places
returns-clause-places c = λ next is. c.drop_empty.ensures.places next (c.args.empty + 1) is
