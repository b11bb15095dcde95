-- How a command ends that prints one text at its end.
use Rattle.std.specs.Prelude.{◌≡◌, ◌≢◌, ◌≤◌, ◌⊎◌, ℕ, List, Option, Result, Ok, Err}
use Rattle.wire_base.specs.Outside.{Adds, Rose}
use Rattle.wire_base.specs.Passing.{AddsFront}
use Rattle.wire_base.specs.declared.outside.stopped.Stopped.{Stopped}
use Rattle.wire_base.specs.declared.outside.stopped.Stopped.TheVariants as stopped
use Rattle.command_text.specs.declared.ending.Ending.{Ending}
use Rattle.swid_cli.specs.Run.{status_of}

-- What an output exposes, and its count of faults.
pub record OutputState : Type 0 where
  pub written : Option (List ℕ)
  pub faults : ℕ

abbrev pub output_state : {K : Type 0} → (K → Option (List ℕ)) → (K → ℕ) → K → OutputState
output_state written faults output = record { written = written output; faults = faults output }

-- What came of a command that has this text to print and came to `how`. Where it ended well, it
-- ended as `how` says, and the whole text was printed. Where a fault ended it, the text was printed
-- and `how` is that fault, or a call of the output failed. That memory ran out goes before a fault.
abbrev pub PrintsAs : List ℕ → Result Ending Stopped → OutputState → OutputState → Result Ending Stopped → Type 0
PrintsAs text how before after (Ok ending) = (how ≡ Ok ending) × Adds before.written after.written text × (after.faults ≡ before.faults)
PrintsAs text how before after (Err stopped.Fault) =
    (how ≢ Err stopped.Memory) × (((how ≡ Err stopped.Fault) × Adds before.written after.written text) ⊎ Rose before.faults after.faults)
PrintsAs text how before after (Err stopped.Memory) = Unit {0}

-- A prefix of the text was printed in any case, and the count of the output did not fall.
pub record Prints (text : List ℕ) (how : Result Ending Stopped) (before after : OutputState) (ended : Result Ending Stopped) : Type 0 where
  pub prefix : AddsFront before.written after.written text
  pub later : before.faults ≤ after.faults
  pub ends : PrintsAs text how before after ended

-- The status is that of an end of which this is so.
abbrev pub EndsWith : ℕ → (Result Ending Stopped → Type 0) → Type 0
EndsWith status so = (ended : Result Ending Stopped) × (status ≡ status_of ended) × so ended
