-- How `collect` and `follow` end, by the ends of their sessions, their doors, and the sweeping.
use Rattle.std.specs.Prelude.{◌||◌, Bool, true, false, List, Option, Some, None, Result, Ok, Err}
use Rattle.std.specs.List.{list_any}
use Rattle.wire_base.specs.declared.outside.stopped.Stopped.{Stopped}
use Rattle.wire_base.specs.declared.outside.stopped.Stopped.TheVariants as stopped
use Rattle.session_rules.specs.declared.end.SessionEnd.{SessionEnd}
use Rattle.session_rules.specs.declared.end.SessionEnd.TheVariants as end
use Rattle.session_core.specs.Driving.{is_link_fault, is_memory}
use Rattle.source_set.specs.declared.swept.SweepError.TheVariants as error
use Rattle.source_sweeps.specs.declared.sweeps.SweepStop.{SweepStop}
use Rattle.source_sweeps.specs.declared.sweeps.SweepStop.TheVariants as stop
use Rattle.source_sweeps.specs.Sweepings.{stopped_failed}
use Rattle.command_text.specs.declared.ending.Ending.{Ending}
use Rattle.command_text.specs.declared.ending.Ending.TheVariants as ending
use Rattle.pool_text.specs.Text.{Noted}

-- A batch was refused at one of the ends, or the link ended within a batch.
abbrev pub is_wrong : SessionEnd → Bool
is_wrong (end.Refused code offset) = true
is_wrong (end.PeerError vendor code) = true
is_wrong (end.Torn have) = true
is_wrong end.Closed = false
is_wrong end.PeerClosed = false
is_wrong end.Ended = false
is_wrong end.LinkFault = false
is_wrong (end.IdleOut turns) = false
is_wrong end.Enough = false
is_wrong end.Memory = false

-- One of the sessions at a door, or at one of several doors, ended so.
abbrev pub some_end : (SessionEnd → Bool) → List Noted → Bool
some_end so ends = list_any (λ (noted : Noted). so noted.1) ends

abbrev pub some_end_at : (SessionEnd → Bool) → List (List Noted) → Bool
some_end_at so doors = list_any (some_end so) doors

-- Sweeping stopped since memory ran out.
abbrev pub stopped_memory : Option SweepStop → Bool
stopped_memory (Some (stop.Sweep error.Memory)) = true
stopped_memory (Some (stop.Sweep other)) = false
stopped_memory (Some (stop.ClockRange secs)) = false
stopped_memory None = false

-- It stopped at an item of a source that can't be done, or at a moment that has no stamp.
abbrev pub stopped_wrong : Option SweepStop → Bool
stopped_wrong (Some (stop.Sweep (error.BadLine source number))) = true
stopped_wrong (Some (stop.Sweep (error.UnknownKey source key))) = true
stopped_wrong (Some (stop.Sweep (error.Book refused))) = true
stopped_wrong (Some (stop.Sweep other)) = false
stopped_wrong (Some (stop.ClockRange secs)) = true
stopped_wrong None = false

-- The first of these that holds: memory ran out, a call of the outside failed, something is wrong.
abbrev pub first_of : Bool → Bool → Bool → Result Ending Stopped
first_of true failed wrong = Err stopped.Memory
first_of false true wrong = Err stopped.Fault
first_of false false true = Ok ending.Findings
first_of false false false = Ok ending.Whole

-- How `collect` ends.
abbrev pub collect_ending : List (List Noted) → List Bool → Option SweepStop → Result Ending Stopped
collect_ending ends door_failed why = first_of
    (some_end_at is_memory ends || stopped_memory why)
    (some_end_at is_link_fault ends || list_any (λ failed. failed) door_failed || stopped_failed why)
    (some_end_at is_wrong ends || stopped_wrong why)

-- How `follow` ends, which makes no sweep.
abbrev pub follow_ending : List (List Noted) → List Bool → Result Ending Stopped
follow_ending ends door_failed = collect_ending ends door_failed None
