-- The seats that were made, and the sources that are left.
use Rattle.std.proofs.Common.{◌≡◌, ◌++◌}
use Rattle.source_set.specs.Sweeping.{seated}
use Rattle.source_set.proofs.set.seated.Given as goal

abbrev pub invariant-loop-source : goal.invariant-loop-source
invariant-loop-source g l = l.seats.items ++ seated l.source-iterator.rest.items ≡ seated l.fn.sources.items
