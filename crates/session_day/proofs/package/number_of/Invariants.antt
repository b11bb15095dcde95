-- The number of the place that was reached.
use Rattle.std.proofs.Common.{◌≡◌}
use Rattle.session_day.specs.Package.{number_of}
use Rattle.session_day.proofs.package.number_of.Given as goal

abbrev pub invariant-loop : goal.invariant-loop
invariant-loop l = l.number ≡ number_of l.fn.count l.counter
