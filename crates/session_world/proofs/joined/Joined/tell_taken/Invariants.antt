-- What was reported so far.
use Rattle.std.proofs.Common.{◌≡◌, ◌++◌, map, take}
use Rattle.session_world.specs.Tellings.{taken_telling}
use Rattle.session_world.proofs.joined.Joined.tell_taken.Given as goal

abbrev pub invariant-loop-one : goal.invariant-loop-one
invariant-loop-one l = l.told ≡ l.fn.told ++ map taken_telling (take l.one-index l.taken)
