-- The same, and the octets that were carried are those of the world that was reached.
use Rattle.std.proofs.Common.{◌≡◌, ◌-◌}
use Rattle.session_world.specs.Lines.{MOST_ROUNDS}
use Rattle.session_world.specs.World.{carried_up}
use Rattle.session_world.proofs.Rounds.{RunsKeeping}
use Rattle.session_world.proofs.world.World.run_noting.Given as goal

abbrev pub invariant-loop : goal.invariant-loop
invariant-loop l = RunsKeeping (λ w v. l.fn.carried ≡ carried_up w → l.carried ≡ carried_up v) l.fn.self l.fn.told l.self l.told (MOST_ROUNDS - l.counter)
