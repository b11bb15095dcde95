-- An inventory that is served at several doors at once, while sources change it.
use Rattle.std.specs.Prelude.{◌≡◌, ◌<◌, ◌⊎◌, ◌++◌, ℕ, true, false, List, Option, Result, Ok, Err, get_or, is_err, length}
use Rattle.wire_base.specs.Outside.{HasCause}
use Rattle.wire_base.specs.Turns.{Turn}
use Rattle.wire_base.specs.declared.values.memory.Memory.{Memory}
use Rattle.collector_core.specs.declared.chronicle.Entry.{Entry}
use Rattle.collector_core.specs.declared.chronicle.Mark.{Mark}
use Rattle.collector_core.specs.Desks.{entries}
use Rattle.book_lock.specs.Passes.{Grows, PassStands, PassView, PassWent, split_from}
use Rattle.source_set.specs.declared.swept.Swept.{Swept}
use Rattle.source_set.specs.declared.told.Told.{Told}
use Rattle.source_sweeps.specs.declared.sweeps.SweepStop.{SweepStop}
use Rattle.source_sweeps.specs.Sweepings.{SweepState, SweepsAll, stopped_failed}
use Rattle.session_door.specs.declared.work.Work.{Work}
use Rattle.session_door.specs.Serving.{Serves}
use Rattle.session_door.specs.Visits.{DoorState}
use Rattle.session_pool.specs.declared.config.PoolConfig.{PoolConfig}
use Rattle.session_pool.specs.declared.outcome.Outcome.{Outcome}
use Rattle.session_pool.specs.declared.pool.Served.{Served}
use Rattle.session_pool.specs.declared.stand.Stand.{Stand}
use Rattle.session_pool.specs.Outcomes.{CameOf, one_ran_out}
use Rattle.session_pool.specs.Rooms.{IsOutcomeOf}

-- What came of the workers and of the sweeps is answered, unless memory ran out for a worker.
abbrev pub AnswersServed : List Work → Swept → Option SweepStop → Result Served Memory → Type 0
AnswersServed works total stopped (Ok all) = CameOf works all.ends all.door_failed × (all.swept ≡ total) × (all.stopped ≡ stopped)
AnswersServed works total stopped (Err memory) = one_ran_out works ≡ true

-- Of any doors, of which `state` is what they expose, and any links.
module _ {D L : Type 0} (taken : L → Option (List Turn)) (given : L → Option (List ℕ)) (faults : L → ℕ) (state : D → DoorState L) where
  -- A worker served links of one door, over a pass that had seen what `first` has. What it saw then
  -- is a prefix of what `last` has seen.
  pub record ServesDoor (c : PoolConfig) (first last : PassView) (before after : D) (work : Work) : Type 0 where
    pub later : PassView
    pub serves : Serves taken given faults c.serve c.sessions (split_from first false) (state before) later (state after) work
    pub rest : List Entry
    pub saw : entries last.seen ≡ entries later.seen ++ rest

  -- Each worker served its door.
  pub record ServesDoors (c : PoolConfig) (first last : PassView) (before after : List (Stand D)) (works : List Work) : Type 0 where
    pub doors_count : length after ≡ length before
    pub works_count : length works ≡ length before
    pub each : (place : ℕ) (stand left : Stand D) (work : Work) → place < length before
        → ServesDoor c first last (get_or before place stand).door (get_or after place left).door (get_or works place work)

  -- Of any sources, which report items, and of faults of theirs.
  module _ {B : Type 0} (reports : B → List Told → Type 0) (source_faults : B → ℕ) where
    -- The sweeps were made over the pass. Every worker began over what it had seen after the first
    -- of them. After the last the passes of the workers met in it, and by that it saw entries of
    -- others alone. `marks` are all entries that it saw: where it was sole it still is, and they
    -- are its own. The sources' count of faults rose exactly where a fault of one stopped the
    -- sweeping.
    pub record ServesAndSweeps (c : PoolConfig) (old : SweepState B PassView) (before : List (Stand D)) (new : SweepState B PassView) (after : List (Stand D)) (result : Result Served Memory) : Type 0 where
      pub first : SweepState B PassView
      pub last : SweepState B PassView
      pub total : Swept
      pub stopped : Option SweepStop
      pub sweeps : SweepsAll reports source_faults PassStands PassWent c.sweeps old first last total stopped
      pub sources : new.sources ≡ last.sources
      pub moments : new.moments ≡ last.moments
      pub cause : HasCause old.sources.faults new.sources.faults (stopped_failed stopped)
      pub met : Grows last.desk new.desk
      pub marks : List Mark
      pub went : PassWent old.desk marks new.desk
      pub works : List Work
      pub serves : ServesDoors c first.desk new.desk before after works
      pub answers : AnswersServed works total stopped result

    -- The pool served; or memory ran out before anything was done.
    abbrev pub ServesAll : PoolConfig → SweepState B PassView → List (Stand D) → SweepState B PassView → List (Stand D) → Result Served Memory → Type 0
    ServesAll c old before new after result =
        ServesAndSweeps c old before new after result ⊎ ((is_err result ≡ true) × (new ≡ old) × (after ≡ before))

    -- The pool served, and the outcome is that of its workers. A result that answers for these
    -- workers and for the sweeps is a result of the pool.
    pub record LeavesOutcome (c : PoolConfig) (old : SweepState B PassView) (before : List (Stand D)) (new : SweepState B PassView) (after : List (Stand D)) (total : Swept) (stopped : Option SweepStop) (outcome : Outcome) : Type 0 where
      pub works : List Work
      pub came : IsOutcomeOf works outcome
      pub answered : (result : Result Served Memory) → AnswersServed works total stopped result → ServesAndSweeps c old before new after result
