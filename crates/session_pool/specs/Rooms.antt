-- What is in the room of stands while a pool works, and what comes out of it.
use Rattle.std.specs.Prelude.{◌≡◌, ◌<◌, ◌≤◌, ◌+◌, ℕ, List, Some, None, get_or, length, vec_capacity, vec_len}
use Rattle.validator_core.specs.Held.{Held}
use Rattle.book_lock.specs.Passes.{PassView}
use Rattle.session_door.specs.declared.work.Work.{Work}
use Rattle.session_pool.specs.declared.outcome.Outcome.{Outcome}
use Rattle.session_pool.specs.declared.stand.Stand.{Stand}
use Rattle.session_pool.specs.Outcomes.{ends_of, failed_of, one_ran_out}

-- ---- what came of workers

-- What came of these workers.
abbrev pub IsOutcomeOf : List Work → Outcome → Type 0
IsOutcomeOf works outcome = (outcome.ends.items ≡ ends_of works) × (outcome.door_failed.items ≡ failed_of works) × (outcome.ran_out ≡ one_ran_out works)

-- There is room for what comes of that many further workers.
abbrev pub HasRoom : ℕ → Outcome → Type 0
HasRoom count outcome = (vec_len outcome.ends + count ≤ vec_capacity outcome.ends) × (vec_len outcome.door_failed + count ≤ vec_capacity outcome.door_failed)

-- ---- what is put in

-- Each mirror was put into the stand at its place.
pub record AreSeated {D : Type 0} (mirrors : List Held) (before after : List (Stand D)) : Type 0 where
  pub count : length after ≡ length before
  pub each : (place : ℕ) (mirror : Held) (stand : Stand D) → place < length before → get_or after place stand ≡ record (get_or before place stand) { mirror = Some (get_or mirrors place mirror) }

-- The same pass was put into each stand.
pub record ArePassed {D : Type 0} (pass : PassView) (before after : List (Stand D)) : Type 0 where
  pub count : length after ≡ length before
  pub each : (place : ℕ) (stand : Stand D) → place < length before → get_or after place stand ≡ record (get_or before place stand) { pass = Some pass }

-- ---- what is taken out

abbrev pub GivesMirror : {D : Type 0} → Stand D → Held → Stand D → Work → Type 0
GivesMirror before mirror after work = (before.mirror ≡ Some mirror) × (before.work ≡ Some work) × (after ≡ record before { mirror = None; work = None })

abbrev pub GivesPass : {D : Type 0} → Stand D → PassView → Stand D → Work → Type 0
GivesPass before pass after work = (before.pass ≡ Some pass) × (before.work ≡ Some work) × (after ≡ record before { pass = None; work = None })

-- The mirrors were taken out of the stands, with what came of the workers.
pub record GiveMirrors {D : Type 0} (before : List (Stand D)) (mirrors : List Held) (after : List (Stand D)) (outcome : Outcome) : Type 0 where
  pub works : List Work
  pub doors_count : length after ≡ length before
  pub works_count : length works ≡ length before
  pub each : (place : ℕ) (mirror : Held) (stand left : Stand D) (work : Work) → place < length before → GivesMirror (get_or before place stand) (get_or mirrors place mirror) (get_or after place left) (get_or works place work)
  pub came : IsOutcomeOf works outcome

-- The passes were taken out of the stands, with what came of the workers.
pub record GivePasses {D : Type 0} (before : List (Stand D)) (passes : List PassView) (after : List (Stand D)) (outcome : Outcome) : Type 0 where
  pub works : List Work
  pub doors_count : length after ≡ length before
  pub works_count : length works ≡ length before
  pub passes_count : length passes ≡ length before
  pub each : (place : ℕ) (pass : PassView) (stand left : Stand D) (work : Work) → place < length before → GivesPass (get_or before place stand) (get_or passes place pass) (get_or after place left) (get_or works place work)
  pub came : IsOutcomeOf works outcome
