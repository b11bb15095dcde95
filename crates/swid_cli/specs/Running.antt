-- What a command did to its input, its output and the files.
use Rattle.std.specs.Prelude.{◌≡◌, ℕ, List, Option, IfSome, Result}
use Rattle.wire_base.specs.NamedFile.{Read}
use Rattle.wire_base.specs.Outside.{HasCause}
use Rattle.wire_base.specs.Passing.{is_fault}
use Rattle.wire_base.specs.declared.outside.files.NamedFile.{NamedFile}
use Rattle.wire_base.specs.declared.outside.stopped.Stopped.{Stopped}
use Rattle.session_day.specs.Day.{IsCount}
use Rattle.session_script.specs.Replay.{SCRIPT_OCTETS, ReplayTells}
use Rattle.command_text.specs.declared.ending.Ending.{Ending}
use Rattle.swid_cli.specs.declared.command.Command.{Command}
use Rattle.swid_cli.specs.declared.command.Command.TheVariants.{Mirror, Tag, Links, Replay, Make}
use Rattle.swid_cli.specs.declared.command.Scope.TheVariants as scope
use Rattle.swid_cli.specs.Causes.{HasCauses, HasFilesCauses}
use Rattle.swid_cli.specs.Links.{LIST_OCTETS, LinksTells}
use Rattle.swid_cli.specs.Making.{RanMaking}
use Rattle.swid_cli.specs.Run.{Ran}
use Rattle.swid_cli.specs.Stream.{stream_text}
use Rattle.swid_cli.specs.TagReads.{TagReads}
use Rattle.swid_cli.specs.Tagging.{TAG_OCTETS, TagTells}
use Rattle.swid_cli.specs.Telling.{RanTelling}

-- A day may have as many packages as `make` is to play.
abbrev pub IsFit : Command → Type 0
IsFit (Make count) = IsCount count
IsFit other = Unit {0}

module _ {S K F : Type 0} (left : S → Option (List ℕ)) (input_faults : S → ℕ) (written : K → Option (List ℕ)) (output_faults : K → ℕ)
    (exposed : F → Option (List NamedFile)) (made : F → Option (List Read)) (file_faults : F → ℕ) where
  -- Each command printed its text, and stopped for a cause. `tag` alone looks at files, and `make`
  -- reads no input.
  abbrev pub RunsCommand : Command → S → K → F → S → K → F → Result Ending Stopped → Type 0
  RunsCommand (Mirror kind) input output folder input-after output-after folder-after ended =
      IfSome (left input) (λ octets. Ran (stream_text kind octets) (left input-after) (written output) (written output-after) ended)
      × HasCauses (input_faults input) (input_faults input-after) (output_faults output) (output_faults output-after) ended
      × (folder-after ≡ folder)
  RunsCommand (Tag looked_at) input output folder input-after output-after folder-after ended =
      IfSome (left input) (λ octets. RanTelling TAG_OCTETS (TagTells looked_at (exposed folder)) octets (left input-after) (written output) (written output-after) ended)
      × HasFilesCauses looked_at (input_faults input) (input_faults input-after) (output_faults output) (output_faults output-after) (file_faults folder) (file_faults folder-after) ended
      × (exposed folder-after ≡ exposed folder)
      × (looked_at ≡ scope.Tag → folder-after ≡ folder)
      × (looked_at ≡ scope.Files → IfSome (left input) (λ octets. TagReads octets ended (made folder) (made folder-after)))
  RunsCommand Links input output folder input-after output-after folder-after ended =
      IfSome (left input) (λ octets. RanTelling LIST_OCTETS LinksTells octets (left input-after) (written output) (written output-after) ended)
      × HasCauses (input_faults input) (input_faults input-after) (output_faults output) (output_faults output-after) ended
      × (folder-after ≡ folder)
  RunsCommand Replay input output folder input-after output-after folder-after ended =
      IfSome (left input) (λ octets. RanTelling SCRIPT_OCTETS ReplayTells octets (left input-after) (written output) (written output-after) ended)
      × HasCauses (input_faults input) (input_faults input-after) (output_faults output) (output_faults output-after) ended
      × (folder-after ≡ folder)
  RunsCommand (Make count) input output folder input-after output-after folder-after ended =
      RanMaking count (written output) (written output-after) ended
      × HasCause (output_faults output) (output_faults output-after) (is_fault ended)
      × (input-after ≡ input)
      × (folder-after ≡ folder)
