use Rattle.std.proofs.Common.{◌∙◌}
use Rattle.collector_core.proofs.Wanting.{searched_is}
use Rattle.collector_core.proofs.targets.is_among.Goals as goal

pub returns : goal.returns
returns c = record { among = c.is_ok.ensures.value ∙ searched_is c.args.rising.now c.args.octets.now _ c.requires.rising c.binary_search.ensures.bound c.binary_search.ensures.position }
