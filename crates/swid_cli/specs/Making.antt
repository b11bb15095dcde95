-- What `make` did: it reads no input.
use Rattle.std.specs.Prelude.{◌≡◌, ℕ, List, Option, None, Result, Ok, Err}
use Rattle.wire_base.specs.Outside.{Adds}
use Rattle.wire_base.specs.declared.outside.stopped.Stopped.{Stopped}
use Rattle.command_text.specs.declared.ending.Ending.{Ending}
use Rattle.command_text.specs.declared.ending.Ending.TheVariants as ending
use Rattle.session_day.specs.Day.{MakeTells}
use Rattle.swid_cli.specs.Printing.{PrintsPart, of_nothing}

-- All of a text was printed, or nothing or a prefix of one where it stopped.
abbrev pub RanMaking : ℕ → Option (List ℕ) → Option (List ℕ) → Result Ending Stopped → Type 0
RanMaking count before after (Ok ended) = (ended ≡ ending.Whole) × ((text : List ℕ) × MakeTells count text × Adds before after text)
RanMaking count before after (Err stop) = PrintsPart (of_nothing (MakeTells count)) None before after
