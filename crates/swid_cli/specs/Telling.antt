-- What a command prints that reads all of its input first. `Tells` says which texts fit octets, and
-- how they end.
use Rattle.std.specs.Prelude.{◌≡◌, ◌⊎◌, ◌+◌, ℕ, List, Option, Result, Ok, Err, drop}
use Rattle.wire_base.specs.Passing.{AddsFront}
use Rattle.wire_base.specs.declared.outside.stopped.Stopped.{Stopped}
use Rattle.command_text.specs.declared.ending.Ending.{Ending}
use Rattle.swid_cli.specs.Run.{Ran}
use Rattle.swid_cli.specs.Stream.{Printed}

-- A text that fits with what is left of the input: what is after one octet more than it may have.
pub record IsTold (most : ℕ) (Tells : List ℕ → List ℕ → Ending → Type 0) (octets : List ℕ) (printed : Printed) : Type 0 where
  pub told : Tells octets printed.text printed.ending
  pub left : printed.left ≡ drop (most + 1) octets

-- Nothing was printed, or a prefix of a text that fits.
abbrev pub PrintsFront : ℕ → (List ℕ → List ℕ → Ending → Type 0) → List ℕ → Option (List ℕ) → Option (List ℕ) → Type 0
PrintsFront most Tells octets before after = (after ≡ before) ⊎ ((printed : Printed) × IsTold most Tells octets printed × AddsFront before after printed.text)

-- The command over the octets that were left of its input.
abbrev pub RanTelling : ℕ → (List ℕ → List ℕ → Ending → Type 0) → List ℕ → Option (List ℕ) → Option (List ℕ) → Option (List ℕ) → Result Ending Stopped → Type 0
RanTelling most Tells octets left-after before after (Ok ended) = (printed : Printed) × IsTold most Tells octets printed × Ran printed left-after before after (Ok ended)
RanTelling most Tells octets left-after before after (Err stop) = PrintsFront most Tells octets before after
