-- The packages so far, and the number of the last of them.
use Rattle.std.proofs.Common.{◌≡◌, ◌-◌}
use Rattle.session_day.specs.Package.{number_of, packages}
use Rattle.session_day.proofs.day.morning.Given as goal

abbrev pub invariant-loop-number : goal.invariant-loop-number
invariant-loop-number l = record {
  x : l.x ≡ number_of l.fn.count (l.number - 1);
  base : l.base.items ≡ packages l.fn.count 1 (l.number - 1);
}
