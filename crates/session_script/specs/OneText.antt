-- What `ReplayTells` means: one text fits each script.
use Rattle.std.specs.Prelude.{◌≡◌, ℕ, List}
use Rattle.command_text.specs.declared.ending.Ending.{Ending}
use Rattle.session_script.specs.Replay.{ReplayTells}

-- Of all octets of an input at most one text is printed, and it ends in one way.
abbrev pub OneReplayText : Type 0
OneReplayText = (octets text other : List ℕ) (how also : Ending) → ReplayTells octets text how → ReplayTells octets other also → (text ≡ other) × (how ≡ also)
