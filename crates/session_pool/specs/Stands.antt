-- Stands of workers, and what a worker does at its own.
use Rattle.std.specs.Prelude.{◌≡◌, ◌<◌, ℕ, Bool, false, List, Option, Some, None, get_or, length}
use Rattle.std.specs.List.{All}
use Rattle.wire_base.specs.Turns.{Turn}
use Rattle.validator_core.specs.Held.{Held}
use Rattle.book_lock.specs.Passes.{PassView}
use Rattle.session_rules.specs.declared.config.FollowConfig.{FollowConfig}
use Rattle.session_rules.specs.declared.config.ServeConfig.{ServeConfig}
use Rattle.session_door.specs.declared.work.Work.{Work}
use Rattle.session_door.specs.Following.{FollowsLinks}
use Rattle.session_door.specs.Serving.{Serves}
use Rattle.session_door.specs.Visits.{DoorState}
use Rattle.session_pool.specs.declared.stand.Stand.{Stand}

-- The room of a stand is empty, and no link of its door is out.
abbrev pub IsReady : {D : Type 0} → (D → Bool) → Stand D → Type 0
IsReady out stand = (stand.pass ≡ None) × (stand.mirror ≡ None) × (stand.work ≡ None) × (out stand.door ≡ false)

-- Each stand is ready.
abbrev pub AreReady : {D : Type 0} → (D → Bool) → List (Stand D) → Type 0
AreReady {D} out stands = All (λ (stand : Stand D). IsReady out stand) stands

-- At each place `so` relates the stand before to the stand after.
pub record AtEach {D : Type 0} (so : Stand D → Stand D → Type 0) (before after : List (Stand D)) : Type 0 where
  pub count : length after ≡ length before
  pub each : (place : ℕ) (other : Stand D) → place < length before → so (get_or before place other) (get_or after place other)

-- Of any links, and any doors: `state` is what a door exposes, and `out` whether a link is out.
module _ {D L : Type 0} (taken : L → Option (List Turn)) (given : L → Option (List ℕ)) (faults : L → ℕ) (state : D → DoorState L) (out : D → Bool) where
  -- A worker served links of its stand's door, over what the pass in the stand sees. None is out.
  pub record ServesAt (c : ServeConfig) (sessions : ℕ) (before after : Stand D) : Type 0 where
    pub pass : PassView
    pub later : PassView
    pub work : Work
    pub had : before.pass ≡ Some pass
    pub has : after ≡ record before { door = after.door; pass = Some later; work = Some work }
    pub serves : Serves taken given faults c sessions pass (state before.door) later (state after.door) work
    pub home : out after.door ≡ false

  -- A worker followed links of its stand's door, with the mirror in the stand. None is out.
  pub record FollowsAt (c : FollowConfig) (sessions : ℕ) (before after : Stand D) : Type 0 where
    pub mirror : Held
    pub later : Held
    pub work : Work
    pub had : before.mirror ≡ Some mirror
    pub has : after ≡ record before { door = after.door; mirror = Some later; work = Some work }
    pub follows : FollowsLinks taken given faults c sessions mirror (state before.door) later (state after.door) work
    pub home : out after.door ≡ false
