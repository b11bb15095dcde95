-- Which counts of faults rose in a pool, and in what was printed of it.
use Rattle.std.proofs.Common.{◌≡◌, ◌≤◌, inl, inr, ℕ, List, ◌∷◌, Option, Result, Ok, Err, sym, subst, le_refl}
use Rattle.wire_base.specs.Doors.{LastCame}
use Rattle.wire_base.specs.Outside.{HasCause}
use Rattle.wire_base.specs.Turns.{Turn}
use Rattle.wire_base.specs.declared.outside.stopped.Stopped.{Stopped}
use Rattle.wire_base.specs.declared.outside.stopped.Stopped.TheVariants as stopped
use Rattle.wire_base.specs.declared.values.memory.Memory.{Memory}
use Rattle.swima_model.specs.declared.report.Kind.TheVariants as kind
use Rattle.validator_core.specs.Held.{Held, empty_mirror}
use Rattle.collector_core.specs.Chronicle.{Chronicle}
use Rattle.book_lock.specs.Passes.{PassView}
use Rattle.source_set.specs.declared.told.Told.{Told}
use Rattle.source_sweeps.specs.Sweepings.{stopped_failed, sweeping}
use Rattle.session_door.specs.Visits.{DoorState, door_state}
use Rattle.session_pool.specs.declared.follow_pool.Followed.{Followed}
use Rattle.session_pool.specs.declared.pool.Served.{Served}
use Rattle.session_pool.specs.declared.stand.Stand.{Stand}
use Rattle.session_pool.specs.Followers.{AnswersFollowed}
use Rattle.session_pool.specs.Servers.{AnswersServed, ServesAndSweeps}
use Rattle.command_options.specs.declared.collect.CollectOptions.{CollectOptions}
use Rattle.command_options.specs.declared.follow.FollowOptions.{FollowOptions}
use Rattle.command_text.specs.declared.ending.Ending.{Ending}
use Rattle.swid_run.specs.Collecting.{CollectState, PrintsIfServed, RunsCollect, chronicle_of, opening, pool_config}
use Rattle.swid_run.specs.Counts.{HasCauses, NoneFell, door_counts}
use Rattle.swid_run.specs.Ends.{OutputState}
use Rattle.swid_run.specs.Following.{Follows, PrintsIfFollowed, RunsFollow}
use Rattle.swid_run.proofs.Counting.{HaveCause, collect_causes, doors_have_cause, follow_causes, none_fell_still, one_has_fault}

any_mirror : Held
any_mirror = empty_mirror kind.Full

-- Where memory ran out no count fell.
pub no_cause : {A : Type 0} (before after : List ℕ) (ended : Result A Stopped) → NoneFell before after → ended ≡ Err stopped.Memory → HasCauses before after ended
no_cause {A} before after ended later is = subst (λ (e : Result A Stopped). HasCauses before after e) (sym is) (record { later = later; cause = tt })

-- No count rose.
pub still_cause : {A : Type 0} (counts : List ℕ) (ended : Result A Stopped) → ended ≡ Err stopped.Memory → HasCauses counts counts ended
still_cause counts ended is = no_cause counts counts ended (none_fell_still counts) is

-- Of any doors and links.
module _ {D L : Type 0} (taken : L → Option (List Turn)) (given : L → Option (List ℕ)) (faults : L → ℕ) (left returned : D → Option (List L)) (last : D → Option LastCame) (count : D → ℕ) where
  abbrev state : D → DoorState L
  state = door_state left returned last count

  -- ---- a pool that serves

  module _ {B : Type 0} (reports : B → List Told → Type 0) (source_faults : B → ℕ) (c : CollectOptions) (before after : CollectState B D) (ended : Result Ending Stopped) where
    abbrev counts_before : List ℕ
    counts_before = before.output.faults ∷ before.sources.faults ∷ door_counts count before.doors

    abbrev counts_after : List ℕ
    counts_after = after.output.faults ∷ after.sources.faults ∷ door_counts count after.doors

    served_causes : (old : PassView) (done : PassView) (chronicle : Chronicle) (served : Result Served Memory)
        (serves : ServesAndSweeps taken given faults state reports source_faults (pool_config c) (sweeping before.sources old before.moments) before.doors (sweeping after.sources done after.moments) after.doors served)
        → PrintsIfServed served chronicle before.output after.output ended → HasCauses counts_before counts_after ended
    served_causes old done chronicle served serves prints = by served serves.answers prints
      where
        doors : HaveCause (door_counts count before.doors) (door_counts count after.doors) (one_has_fault serves.works)
        doors =
            doors_have_cause count before.doors after.doors serves.works serves.serves.doors_count serves.serves.works_count
            (λ place stand gone work less. (serves.serves.each place stand gone work less).serves.works.cause)

        by : (result : Result Served Memory) → AnswersServed serves.works serves.total serves.stopped result → PrintsIfServed result chronicle before.output after.output ended → HasCauses counts_before counts_after ended
        by (Ok all) answers prints =
            collect_causes _ before.output after.output (door_counts count before.doors) (door_counts count after.doors) serves.works all.ends all.door_failed answers.0.0 answers.0.1 doors
            before.sources.faults after.sources.faults all.stopped ended (subst (λ (why : _). HasCause before.sources.faults after.sources.faults (stopped_failed why)) (sym answers.2) serves.cause) prints
        by (Err memory) answers prints =
            no_cause counts_before counts_after ended (subst (λ (o : OutputState). before.output.faults ≤ o.faults) (sym prints.0) (le_refl before.output.faults), (serves.cause.later, doors.later)) prints.1

    pub collected_causes : RunsCollect taken given faults state reports source_faults c before after ended → HasCauses counts_before counts_after ended
    collected_causes runs = elim runs [
      | inl all ↦ served_causes (opening c all.shelf) all.done (chronicle_of c all.done) all.served all.serves all.prints
      | inr none ↦ subst (λ (w : CollectState B D). HasCauses counts_before (w.output.faults ∷ w.sources.faults ∷ door_counts count w.doors) ended) (sym none.1) (still_cause counts_before ended none.0)
    ]

  -- ---- a pool that follows

  module _ (c : FollowOptions) (before after : List (Stand D)) (output later : OutputState) (ended : Result Ending Stopped) where
    abbrev follow_before : List ℕ
    follow_before = output.faults ∷ door_counts count before

    abbrev follow_after : List ℕ
    follow_after = later.faults ∷ door_counts count after

    follows_causes : (follows : Follows taken given faults state c before after output later ended) → HasCauses follow_before follow_after ended
    follows_causes follows = by follows.followed follows.answers follows.prints
      where
        doors : HaveCause (door_counts count before) (door_counts count after) (one_has_fault follows.works)
        doors =
            doors_have_cause count before after follows.works follows.follows.doors_count follows.follows.works_count
            (λ place stand gone work less. (follows.follows.each place any_mirror any_mirror stand gone work less).works.cause)

        by : (result : Result Followed Memory) → AnswersFollowed follows.works result → PrintsIfFollowed result follows.held output later ended → HasCauses follow_before follow_after ended
        by (Ok all) answers prints = follow_causes _ output later (door_counts count before) (door_counts count after) follows.works all.ends all.door_failed answers.0 answers.1 doors ended prints
        by (Err memory) answers prints = no_cause follow_before follow_after ended (subst (λ (o : OutputState). output.faults ≤ o.faults) (sym prints.0) (le_refl output.faults), doors.later) prints.1

    pub followed_causes : RunsFollow taken given faults state c before after output later ended → HasCauses follow_before follow_after ended
    followed_causes runs = elim runs [
      | inl all ↦ follows_causes all
      | inr none ↦ subst (λ (o : OutputState). HasCauses follow_before (o.faults ∷ door_counts count after) ended) (sym none.2)
          (subst (λ (stands : List (Stand D)). HasCauses follow_before (output.faults ∷ door_counts count stands) ended) (sym none.1) (still_cause follow_before ended none.0))
    ]
