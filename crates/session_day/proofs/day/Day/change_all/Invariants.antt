-- The changes before this one were made.
use Rattle.std.proofs.Common.{◌-◌}
use Rattle.session_world.specs.Standing.{StandsFor}
use Rattle.session_world.specs.World.{World}
use Rattle.session_day.proofs.Daily.{Changing}
use Rattle.session_day.proofs.day.Day.change_all.Given as goal

abbrev pub invariant-loop-number : goal.invariant-loop-number
invariant-loop-number l = (w : World) → StandsFor l.fn.self.world w → Changing l.fn.count w l.fn.self l.self (41 - l.number) l.number
