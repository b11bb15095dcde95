-- Mirrors that follow several doors at once.
use Rattle.std.specs.Prelude.{◌≡◌, ◌<◌, ◌⊎◌, ℕ, true, List, Option, Result, Ok, Err, get_or, is_err, length}
use Rattle.wire_base.specs.Turns.{Turn}
use Rattle.wire_base.specs.declared.values.memory.Memory.{Memory}
use Rattle.validator_core.specs.Held.{Held}
use Rattle.session_rules.specs.declared.config.FollowConfig.{FollowConfig}
use Rattle.session_door.specs.declared.work.Work.{Work}
use Rattle.session_door.specs.Following.{FollowsLinks}
use Rattle.session_door.specs.Visits.{DoorState}
use Rattle.session_pool.specs.declared.follow_pool.Followed.{Followed}
use Rattle.session_pool.specs.declared.stand.Stand.{Stand}
use Rattle.session_pool.specs.Outcomes.{CameOf, one_ran_out}

-- What came of the workers is answered, unless memory ran out for one of them.
abbrev pub AnswersFollowed : List Work → Result Followed Memory → Type 0
AnswersFollowed works (Ok all) = CameOf works all.ends all.door_failed
AnswersFollowed works (Err memory) = one_ran_out works ≡ true

-- Of any doors, of which `state` is what they expose, and any links.
module _ {D L : Type 0} (taken : L → Option (List Turn)) (given : L → Option (List ℕ)) (faults : L → ℕ) (state : D → DoorState L) where
  -- There is a mirror for each door, and links of the door were followed with it.
  pub record FollowsDoors (c : FollowConfig) (sessions : ℕ) (mirrors : List Held) (before : List (Stand D)) (held : List Held) (after : List (Stand D)) (works : List Work) : Type 0 where
    pub mirrors_count : length mirrors ≡ length before
    pub held_count : length held ≡ length before
    pub doors_count : length after ≡ length before
    pub works_count : length works ≡ length before
    pub each : (place : ℕ) (mirror later : Held) (stand left : Stand D) (work : Work) → place < length before
        → FollowsLinks taken given faults c sessions (get_or mirrors place mirror) (state (get_or before place stand).door)
        (get_or held place later) (state (get_or after place left).door) (get_or works place work)

  -- All doors were followed; or memory ran out before any was, and nothing was done.
  abbrev pub FollowsAll : FollowConfig → ℕ → List Held → List (Stand D) → List Held → List (Stand D) → Result Followed Memory → Type 0
  FollowsAll c sessions mirrors before held after result =
      ((works : List Work) × FollowsDoors c sessions mirrors before held after works × AnswersFollowed works result)
      ⊎ ((is_err result ≡ true) × (held ≡ mirrors) × (after ≡ before))
