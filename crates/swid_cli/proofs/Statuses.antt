-- The status of what a command did.
use Rattle.std.proofs.Common.{◌≡◌, ◌≢◌, ◌≤◌, ℕ, Result, Ok, Err, arith}
use Rattle.wire_base.specs.declared.outside.stopped.Stopped.{Stopped}
use Rattle.wire_base.specs.declared.outside.stopped.Stopped.TheVariants as stopped
use Rattle.command_text.specs.declared.ending.Ending.{Ending}
use Rattle.command_text.specs.declared.ending.Ending.TheVariants as ending
use Rattle.swid_cli.specs.Run.{status_of}

-- It is at most 4, and not 2, which is that of words that are no command line.
pub status_within : (ended : Result Ending Stopped) (status : ℕ) → status ≡ status_of ended → (status ≤ 4) × (status ≢ 2)
status_within (Ok ending.Whole) status is = (omega (arith, is), λ two. absurd (omega (arith, is, two)))
status_within (Ok ending.Refused) status is = (omega (arith, is), λ two. absurd (omega (arith, is, two)))
status_within (Ok ending.Findings) status is = (omega (arith, is), λ two. absurd (omega (arith, is, two)))
status_within (Err stopped.Fault) status is = (omega (arith, is), λ two. absurd (omega (arith, is, two)))
status_within (Err stopped.Memory) status is = (omega (arith, is), λ two. absurd (omega (arith, is, two)))
