-- Why a command over an input and an output stopped.
use Rattle.std.specs.Prelude.{◌≡◌, ◌≤◌, ℕ, Bool, Result, Ok, Err}
use Rattle.std.specs.Bool.{OnTrue}
use Rattle.std.specs.Prelude.{◌⊎◌}
use Rattle.wire_base.specs.Outside.{HasCause, Rose}
use Rattle.wire_base.specs.declared.outside.stopped.Stopped.{Stopped}
use Rattle.wire_base.specs.declared.outside.stopped.Stopped.TheVariants as stopped
use Rattle.swid_cli.specs.declared.command.Scope.{Scope}
use Rattle.swid_cli.specs.declared.command.Scope.TheVariants as scope

-- A fault stopped it exactly where a count of faults rose, that of the input or that of the output.
abbrev pub Cause : {A : Type 0} → ℕ → ℕ → ℕ → ℕ → Result A Stopped → Type 0
Cause input-before input-after output-before output-after (Ok ended) = (input-after ≡ input-before) × (output-after ≡ output-before)
Cause input-before input-after output-before output-after (Err stopped.Fault) = Rose input-before input-after ⊎ Rose output-before output-after
Cause input-before input-after output-before output-after (Err stopped.Memory) = (input-after ≡ input-before) × (output-after ≡ output-before)

-- No count falls, and a fault is answered for its cause.
pub record HasCauses {A : Type 0} (input-before input-after output-before output-after : ℕ) (result : Result A Stopped) : Type 0 where
  pub input : input-before ≤ input-after
  pub output : output-before ≤ output-after
  pub cause : Cause input-before input-after output-before output-after result

-- The same of a command that may look at files: then a fault of theirs stopped it too.
abbrev pub FilesCause : {A : Type 0} → Scope → ℕ → ℕ → ℕ → ℕ → ℕ → ℕ → Result A Stopped → Type 0
FilesCause looked_at input-before input-after output-before output-after files-before files-after (Ok ended) =
    (input-after ≡ input-before) × (output-after ≡ output-before) × (files-after ≡ files-before)
FilesCause looked_at input-before input-after output-before output-after files-before files-after (Err stopped.Fault) =
    Rose input-before input-after ⊎ Rose output-before output-after ⊎ ((looked_at ≡ scope.Files) × Rose files-before files-after)
FilesCause looked_at input-before input-after output-before output-after files-before files-after (Err stopped.Memory) =
    (input-after ≡ input-before) × (output-after ≡ output-before) × (files-after ≡ files-before)

pub record HasFilesCauses {A : Type 0} (looked_at : Scope) (input-before input-after output-before output-after files-before files-after : ℕ) (result : Result A Stopped) : Type 0 where
  pub input : input-before ≤ input-after
  pub output : output-before ≤ output-after
  pub files : files-before ≤ files-after
  pub cause : FilesCause looked_at input-before input-after output-before output-after files-before files-after result

-- What a part of a command does to files that it may look at. They expose what they did, and are as
-- they were where it does not look at them. A fault stops it exactly where their count rose, and
-- only where it looks at them.
pub record LooksAt {F C : Type 0} (exposed : F → C) (faults : F → ℕ) (looks : Scope) (failed : Bool) (before after : F) : Type 0 where
  pub contents : exposed after ≡ exposed before
  pub untouched : looks ≡ scope.Tag → after ≡ before
  pub cause : HasCause (faults before) (faults after) failed
  pub looked : OnTrue failed (looks ≡ scope.Files)
