-- What a command does. What it leaves of the input and adds to the output is said as far as these
-- expose.
use Rattle.std.specs.Prelude.{◌≡◌, ℕ, List, [], ◌∷◌, Option, Some, Result, Ok, Err, codes}
use Rattle.wire_base.specs.Outside.{Adds}
use Rattle.wire_base.specs.Passing.{AddsFront}
use Rattle.wire_base.specs.declared.outside.stopped.Stopped.{Stopped}
use Rattle.wire_base.specs.declared.outside.stopped.Stopped.TheVariants as stopped
use Rattle.command_text.specs.declared.ending.Ending.{Ending}
use Rattle.command_text.specs.declared.ending.Ending.TheVariants as ending
use Rattle.swid_cli.specs.Stream.{Printed}
use Rattle.command_text.specs.Text.{line}

-- The line that is printed where the words are no command line.
abbrev pub usage : List ℕ
usage = line (codes "usage" ∷ [])

-- The status of an output that ends so.
abbrev pub ending_status : Ending → ℕ
ending_status ending.Whole = 0
ending_status ending.Refused = 1
ending_status ending.Findings = 1

-- The status of a command.
abbrev pub status_of : Result Ending Stopped → ℕ
status_of (Ok ended) = ending_status ended
status_of (Err stopped.Fault) = 3
status_of (Err stopped.Memory) = 4

-- A command over the octets that were left of its input: what it added to its output, how it ended,
-- and what is left.
abbrev pub Ran : Printed → Option (List ℕ) → Option (List ℕ) → Option (List ℕ) → Result Ending Stopped → Type 0
Ran printed left-after before after (Ok ended) = Adds before after printed.text × (ended ≡ printed.ending) × (left-after ≡ Some printed.left)
Ran printed left-after before after (Err stop) = AddsFront before after printed.text

-- All of a text was printed, with its status, and what it leaves of the input is left; at status 0
-- that is nothing.
pub record Prints (printed : Printed) (left-after before after : Option (List ℕ)) (status : ℕ) : Type 0 where
  pub text : Adds before after printed.text
  pub ending : status ≡ ending_status printed.ending
  pub left : left-after ≡ Some printed.left
  pub ended : status ≡ 0 → left-after ≡ Some []
