-- What a command line prints and which files it reads, by its words, the octets of its input, and
-- the files.
use Rattle.std.specs.Prelude.{◌≡◌, ◌⊎◌, ℕ, List, Option, IfSome, Result}
use Rattle.wire_base.specs.NamedFile.{Read}
use Rattle.wire_base.specs.Outside.{Adds}
use Rattle.wire_base.specs.Passing.{AddsFront}
use Rattle.wire_base.specs.declared.outside.files.NamedFile.{NamedFile}
use Rattle.wire_base.specs.declared.outside.stopped.Stopped.{Stopped}
use Rattle.swid_cli.specs.declared.command.Command.{Command}
use Rattle.swid_cli.specs.declared.command.Command.TheVariants.{Mirror, Tag, Links, Replay, Make}
use Rattle.swid_cli.specs.declared.command.Scope.TheVariants as scope
use Rattle.command_text.specs.declared.ending.Ending.{Ending}
use Rattle.swid_cli.specs.Commands.{Says}
use Rattle.swid_cli.specs.Links.{LIST_OCTETS, LinksTells}
use Rattle.session_script.specs.Replay.{SCRIPT_OCTETS, ReplayTells}
use Rattle.session_day.specs.Day.{MakeTells}
use Rattle.swid_cli.specs.Run.{Prints, status_of}
use Rattle.swid_cli.specs.Stream.{Printed, stream_text}
use Rattle.swid_cli.specs.TagReads.{TagReads}
use Rattle.swid_cli.specs.Tagging.{TAG_OCTETS, TagTells}
use Rattle.swid_cli.specs.Telling.{IsTold}

-- What is printed: a text of all octets of the input, how it ends, and what it leaves of them; or a
-- text that needs no input.
pub data Output : Type 1 where
  of_input : (List ℕ → Printed → Type 0) → Output
  of_nothing : (List ℕ → Type 0) → Output

-- What a command prints. What the files hold is known or not.
abbrev pub CommandPrints : Command → Option (List NamedFile) → Output
CommandPrints (Mirror kind) files = of_input (λ octets printed. printed ≡ stream_text kind octets)
CommandPrints (Tag looked_at) files = of_input (IsTold TAG_OCTETS (TagTells looked_at files))
CommandPrints Links files = of_input (IsTold LIST_OCTETS LinksTells)
CommandPrints Replay files = of_input (IsTold SCRIPT_OCTETS ReplayTells)
CommandPrints (Make count) files = of_nothing (MakeTells count)

-- All of it was printed, with its status. Where an input is read, this is said of one that exposes
-- its octets.
abbrev pub PrintsAll : Output → Option (List ℕ) → Option (List ℕ) → Option (List ℕ) → Option (List ℕ) → ℕ → Type 0
PrintsAll (of_input Tells) left-before left-after before after status = IfSome left-before (λ octets. (printed : Printed) × Tells octets printed × Prints printed left-after before after status)
PrintsAll (of_nothing Tells) left-before left-after before after status = (text : List ℕ) × Tells text × Adds before after text × (status ≡ 0)

-- Nothing was printed, or a prefix of it.
abbrev pub PrintsPart : Output → Option (List ℕ) → Option (List ℕ) → Option (List ℕ) → Type 0
PrintsPart (of_input Tells) left before after = IfSome left (λ octets. (after ≡ before) ⊎ ((printed : Printed) × Tells octets printed × AddsFront before after printed.text))
PrintsPart (of_nothing Tells) left before after = (after ≡ before) ⊎ ((text : List ℕ) × Tells text × AddsFront before after text)

-- The reads of files that a command made which ended so: `tag verify` those of the tag, and no
-- other command any.
abbrev pub CommandReads : Command → List ℕ → Result Ending Stopped → Option (List Read) → Option (List Read) → Type 0
CommandReads (Tag scope.Files) octets ended before after = TagReads octets ended before after
CommandReads (Tag scope.Tag) octets ended before after = after ≡ before
CommandReads (Mirror kind) octets ended before after = after ≡ before
CommandReads Links octets ended before after = after ≡ before
CommandReads Replay octets ended before after = after ≡ before
CommandReads (Make count) octets ended before after = after ≡ before

-- The words say a command, and all that it prints was printed.
pub record WordsPrint (words : List (List ℕ)) (files : Option (List NamedFile)) (left-before left-after before after : Option (List ℕ)) (status : ℕ) : Type 0 where
  pub command : Command
  pub said : Says command words
  pub prints : PrintsAll (CommandPrints command files) left-before left-after before after status

-- The words say a command, and a prefix of what it prints was printed, or nothing.
pub record WordsBegin (words : List (List ℕ)) (files : Option (List NamedFile)) (left before after : Option (List ℕ)) : Type 0 where
  pub command : Command
  pub said : Says command words
  pub begins : PrintsPart (CommandPrints command files) left before after

-- The words say a command that ended with this status, and these are the reads that it made.
pub record WordsRead (words : List (List ℕ)) (octets : List ℕ) (status : ℕ) (before after : Option (List Read)) : Type 0 where
  pub command : Command
  pub said : Says command words
  pub ended : Result Ending Stopped
  pub shows : status ≡ status_of ended
  pub reads : CommandReads command octets ended before after
