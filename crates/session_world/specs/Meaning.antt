-- What the lines of a script mean.
use Rattle.std.specs.Prelude.{◌≡◌, []}
use Rattle.session_world.specs.Lines.{runs}
use Rattle.session_world.specs.World.{World, waits_down, waits_up}

-- After a run nothing waits at either end, in whatever world it was made.
abbrev pub NothingWaitsAfterRuns : Type 0
NothingWaitsAfterRuns = (w : World) → (waits_up (runs w).0 ≡ []) × (waits_down (runs w).0 ≡ [])
