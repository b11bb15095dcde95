-- What `follow` does. Each mirror follows the sessions at its own door, and begins with nothing.
use Rattle.std.specs.Prelude.{◌≡◌, ◌⊎◌, ℕ, List, Option, Result, Ok, Err, map}
use Rattle.clap.specs.Words.{Text}
use Rattle.wire_base.specs.Turns.{Turn}
use Rattle.wire_base.specs.declared.outside.stopped.Stopped.{Stopped}
use Rattle.wire_base.specs.declared.outside.stopped.Stopped.TheVariants as stopped
use Rattle.wire_base.specs.declared.values.memory.Memory.{Memory}
use Rattle.validator_core.specs.Held.{Held, empty_mirror}
use Rattle.session_rules.specs.declared.config.FollowConfig.{FollowConfig}
use Rattle.session_door.specs.declared.work.Work.{Work}
use Rattle.session_door.specs.Visits.{DoorState}
use Rattle.session_pool.specs.declared.follow_pool.Followed.{Followed}
use Rattle.session_pool.specs.declared.stand.Stand.{Stand}
use Rattle.session_pool.specs.Followers.{AnswersFollowed, FollowsDoors}
use Rattle.command_options.specs.declared.follow.FollowOptions.{FollowOptions}
use Rattle.command_text.specs.declared.ending.Ending.{Ending}
use Rattle.pool_text.specs.Endings.{follow_ending}
use Rattle.pool_text.specs.Text.{follow_text}
use Rattle.swid_run.specs.Ends.{OutputState, Prints}
use Rattle.swid_run.specs.Limits.{idle_turns, most_octets}

-- A mirror for each address, which holds nothing.
abbrev pub new_mirrors : FollowOptions → List Held
new_mirrors options = map (λ (address : Text). empty_mirror options.kind) options.addresses

-- How sessions are followed.
abbrev pub follow_config : FollowOptions → FollowConfig
follow_config options = record { subscribe = options.subscribe; rounds = options.rounds; idle = idle_turns; octets = most_octets }

-- The lines of the sessions and mirrors were printed, and the command ended as these say. Where
-- memory ran out for a worker, nothing was printed.
abbrev pub PrintsFollowed : Followed → List Held → OutputState → OutputState → Result Ending Stopped → Type 0
PrintsFollowed followed mirrors before after ended =
    Prints (follow_text followed.ends followed.door_failed mirrors) (follow_ending followed.ends followed.door_failed) before after ended

abbrev pub PrintsIfFollowed : Result Followed Memory → List Held → OutputState → OutputState → Result Ending Stopped → Type 0
PrintsIfFollowed (Ok followed) mirrors before after ended = PrintsFollowed followed mirrors before after ended
PrintsIfFollowed (Err memory) mirrors before after ended = (after ≡ before) × (ended ≡ Err stopped.Memory)

-- Of any doors, of which `state` is what they expose, and any links.
module _ {D L : Type 0} (taken : L → Option (List Turn)) (given : L → Option (List ℕ)) (faults : L → ℕ) (state : D → DoorState L) where
  -- The mirrors followed the sessions at their doors, and each began with nothing. So each is right
  -- in the end over each honest history from which all reports answer that it took.
  pub record Follows (c : FollowOptions) (before after : List (Stand D)) (output later : OutputState) (ended : Result Ending Stopped) : Type 0 where
    pub held : List Held
    pub works : List Work
    pub followed : Result Followed Memory
    pub follows : FollowsDoors taken given faults state (follow_config c) c.sessions (new_mirrors c) before held after works
    pub answers : AnswersFollowed works followed
    pub prints : PrintsIfFollowed followed held output later ended

  -- The mirrors followed; or memory ran out before anything was done.
  abbrev pub RunsFollow : FollowOptions → List (Stand D) → List (Stand D) → OutputState → OutputState → Result Ending Stopped → Type 0
  RunsFollow c before after output later ended =
      Follows c before after output later ended ⊎ ((ended ≡ Err stopped.Memory) × (after ≡ before) × (later ≡ output))
