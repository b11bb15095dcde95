-- Some rounds were made, and what is still to come makes the run whole.
use Rattle.std.proofs.Common.{◌-◌}
use Rattle.session_world.specs.Lines.{MOST_ROUNDS}
use Rattle.session_world.proofs.Rounds.{Runs}
use Rattle.session_world.proofs.world.World.run.Given as goal

abbrev pub invariant-loop : goal.invariant-loop
invariant-loop l = Runs l.fn.self l.fn.told l.self l.told (MOST_ROUNDS - l.counter)
