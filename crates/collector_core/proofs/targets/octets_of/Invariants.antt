use Rattle.std.proofs.Common.{◌≡◌, take}
use Rattle.collector_core.specs.Borrowed.{values}
use Rattle.collector_core.proofs.targets.octets_of.Given as goal

abbrev pub invariant-loop-ident : goal.invariant-loop-ident
invariant-loop-ident l = values l.octets.items ≡ take l.ident-index l.ident-items
