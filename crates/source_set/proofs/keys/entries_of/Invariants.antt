-- The entries that were gone over, and those that are left.
use Rattle.std.proofs.Common.{◌≡◌, ◌++◌}
use Rattle.source_set.proofs.keys.entries_of.Given as goal

abbrev pub invariant-loop-key : goal.invariant-loop-key
invariant-loop-key l = l.held.items ++ l.key-iterator ≡ l.ids.entries
