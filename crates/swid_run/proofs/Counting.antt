-- Counts of faults: of doors, of the sources beside them, and of an output.
use Rattle.std.proofs.Common.{◌≡◌, ◌<◌, ◌||◌, ◌⊎◌, inl, inr, ℕ, suc, Bool, true, false, List, [], ◌∷◌, Option, None, Result, Ok, Err, get_or, length, refl, ap₂, subst, le_refl, arith}
use Rattle.std.specs.Prelude.{MatchBool}
use Rattle.std.specs.List.{list_any}
use Rattle.wire_base.specs.Outside.{HasCause, Rose}
use Rattle.wire_base.specs.declared.outside.stopped.Stopped.{Stopped}
use Rattle.wire_base.specs.declared.outside.stopped.Stopped.TheVariants as stopped
use Rattle.command_text.specs.declared.ending.Ending.{Ending}
use Rattle.session_core.specs.Driving.{is_link_fault}
use Rattle.session_door.specs.declared.work.Work.{Work}
use Rattle.session_door.specs.Visits.{Noted, is_failed, some_fault}
use Rattle.session_pool.specs.Outcomes.{ends_of, failed_of}
use Rattle.session_pool.specs.declared.stand.Stand.{Stand}
use Rattle.source_sweeps.specs.declared.sweeps.SweepStop.{SweepStop}
use Rattle.source_sweeps.specs.Sweepings.{stopped_failed}
use Rattle.pool_text.specs.Endings.{collect_ending, first_of, some_end, some_end_at}
use Rattle.swid_run.specs.Counts.{Cause, HasCauses, NoneFell, OneRose, door_counts}
use Rattle.swid_run.specs.Ends.{OutputState, Prints}

-- ---- lists of counts

pub none_fell_still : (counts : List ℕ) → NoneFell counts counts
none_fell_still [] = tt
none_fell_still (count ∷ counts) = (le_refl count, none_fell_still counts)

pub nothing_rose : {A : Type 0} (counts : List ℕ) (result : Result A Stopped) → Cause counts counts result → HasCauses counts counts result
nothing_rose counts result cause = record { later = none_fell_still counts; cause = cause }

-- ---- or

pub neither_of : (a b : Bool) → (a || b) ≡ false → (a ≡ false) × (b ≡ false)
neither_of true b none = absurd cc
neither_of false b none = (refl, none)

pub either_of : (a b : Bool) → (a || b) ≡ true → (a ≡ true) ⊎ (b ≡ true)
either_of true b some = inl refl
either_of false b some = inr some

pub either_left : (a b : Bool) → a ≡ true → (a || b) ≡ true
either_left true b some = refl
either_left false b some = absurd cc

pub either_right : (a b : Bool) → b ≡ true → (a || b) ≡ true
either_right true b some = refl
either_right false b some = some

-- ---- how a pool ends

-- It ends well only where no fault shows.
pub ends_well : (memory failed wrong : Bool) (ending : Ending) → first_of memory failed wrong ≡ Ok ending → failed ≡ false
ends_well true failed wrong ending is = absurd cc
ends_well false true wrong ending is = absurd cc
ends_well false false wrong ending is = refl

-- It ends by a fault only where one shows.
pub ends_failed : (memory failed wrong : Bool) → first_of memory failed wrong ≡ Err stopped.Fault → failed ≡ true
ends_failed true failed wrong is = absurd cc
ends_failed false true wrong is = refl
ends_failed false false true is = absurd cc
ends_failed false false false is = absurd cc

-- ---- workers

-- A worker's door failed, or a link of it.
abbrev pub has_fault : Work → Bool
has_fault work = is_failed work.stop || some_fault work.ends

abbrev pub one_has_fault : List Work → Bool
one_has_fault works = list_any has_fault works

pub none_has_fault : (works : List Work) → some_end_at is_link_fault (ends_of works) ≡ false → list_any (λ (failed : Bool). failed) (failed_of works) ≡ false → one_has_fault works ≡ false
none_has_fault [] links doors = refl
none_has_fault (work ∷ works) links doors =
    let link = neither_of (some_end is_link_fault work.ends) (some_end_at is_link_fault (ends_of works)) links in
    let door = neither_of (is_failed work.stop) (list_any (λ (failed : Bool). failed) (failed_of works)) doors in
    ap₂ (λ (a b : Bool). a || b) (ap₂ (λ (a b : Bool). a || b) door.0 link.0) (none_has_fault works link.1 door.1)

pub some_link_fault : (works : List Work) → some_end_at is_link_fault (ends_of works) ≡ true → one_has_fault works ≡ true
some_link_fault [] some = absurd cc
some_link_fault (work ∷ works) some = elim (either_of (some_end is_link_fault work.ends) (some_end_at is_link_fault (ends_of works)) some) [
  | inl here ↦ either_left (has_fault work) (one_has_fault works) (either_right (is_failed work.stop) (some_fault work.ends) here)
  | inr later ↦ either_right (has_fault work) (one_has_fault works) (some_link_fault works later)
]

pub some_door_failed : (works : List Work) → list_any (λ (failed : Bool). failed) (failed_of works) ≡ true → one_has_fault works ≡ true
some_door_failed [] some = absurd cc
some_door_failed (work ∷ works) some = elim (either_of (is_failed work.stop) (list_any (λ (failed : Bool). failed) (failed_of works)) some) [
  | inl here ↦ either_left (has_fault work) (one_has_fault works) (either_left (is_failed work.stop) (some_fault work.ends) here)
  | inr later ↦ either_right (has_fault work) (one_has_fault works) (some_door_failed works later)
]

-- ---- doors

-- The two halves of a fault's cause, of several counts.
pub record HaveCause (before after : List ℕ) (failed : Bool) : Type 0 where
  pub later : NoneFell before after
  pub cause : MatchBool failed (OneRose before after) (after ≡ before)

one_more_cause : (before after : ℕ) (others later : List ℕ) (a b : Bool) → HasCause before after a → HaveCause others later b → HaveCause (before ∷ others) (after ∷ later) (a || b)
one_more_cause before after others later true b one more = record { later = (one.later, more.later); cause = inl one.cause }
one_more_cause before after others later false true one more = record { later = (one.later, more.later); cause = inr more.cause }
one_more_cause before after others later false false one more = record { later = (one.later, more.later); cause = ap₂ (λ (x : ℕ) (xs : List ℕ). x ∷ xs) one.cause more.cause }

module _ {D : Type 0} (count : D → ℕ) where
  -- At each place the count rose exactly where the worker there has a fault.
  abbrev pub CauseAt : List (Stand D) → List (Stand D) → List Work → Type 0
  CauseAt before after works = (place : ℕ) (stand left : Stand D) (work : Work) → place < length before
      → HasCause (count (get_or before place stand).door) (count (get_or after place left).door) (has_fault (get_or works place work))

  pub doors_have_cause : (before after : List (Stand D)) (works : List Work) → length after ≡ length before → length works ≡ length before → CauseAt before after works
      → HaveCause (door_counts count before) (door_counts count after) (one_has_fault works)
  doors_have_cause [] [] [] same many each = record { later = tt; cause = refl }
  doors_have_cause [] [] (work ∷ works) same many each = absurd (omega (arith, many))
  doors_have_cause [] (left ∷ after) works same many each = absurd (omega (arith, same))
  doors_have_cause (stand ∷ before) [] works same many each = absurd (omega (arith, same))
  doors_have_cause (stand ∷ before) (left ∷ after) [] same many each = absurd (omega (arith, many))
  doors_have_cause (stand ∷ before) (left ∷ after) (work ∷ works) same many each =
      one_more_cause (count stand.door) (count left.door) (door_counts count before) (door_counts count after) (has_fault work) (one_has_fault works)
      (each 0 stand left work (omega arith))
      (doors_have_cause before after works (omega (arith, same)) (omega (arith, many)) (λ place one other did less. each (suc place) one other did (omega (arith, less))))

-- ---- a command

-- What came of the pool shows a fault exactly where a worker has one, or the sweeping stopped at
-- one.
pub pool_calm : (works : List Work) (ends : List (List Noted)) (failed : List Bool) (why : Option SweepStop) (ending : Ending) → ends ≡ ends_of works → failed ≡ failed_of works
    → collect_ending ends failed why ≡ Ok ending → (one_has_fault works ≡ false) × (stopped_failed why ≡ false)
pool_calm works ends failed why ending same also is =
    let calm = ends_well _ ((some_end_at is_link_fault (ends_of works) || list_any (λ (failed : Bool). failed) (failed_of works)) || stopped_failed why) _ ending
    (subst (λ (f : List Bool). collect_ending (ends_of works) f why ≡ Ok ending) also (subst (λ (e : List (List Noted)). collect_ending e failed why ≡ Ok ending) same is)) in
    let one = neither_of (some_end_at is_link_fault (ends_of works) || list_any (λ (failed : Bool). failed) (failed_of works)) (stopped_failed why) calm in
    let other = neither_of (some_end_at is_link_fault (ends_of works)) (list_any (λ (failed : Bool). failed) (failed_of works)) one.0 in
    (none_has_fault works other.0 other.1, one.1)

pub pool_failed : (works : List Work) (ends : List (List Noted)) (failed : List Bool) (why : Option SweepStop) → ends ≡ ends_of works → failed ≡ failed_of works
    → collect_ending ends failed why ≡ Err stopped.Fault → (one_has_fault works ≡ true) ⊎ (stopped_failed why ≡ true)
pool_failed works ends failed why same also is =
    let fault = ends_failed _ ((some_end_at is_link_fault (ends_of works) || list_any (λ (failed : Bool). failed) (failed_of works)) || stopped_failed why) _
    (subst (λ (f : List Bool). collect_ending (ends_of works) f why ≡ Err stopped.Fault) also (subst (λ (e : List (List Noted)). collect_ending e failed why ≡ Err stopped.Fault) same is)) in
    elim (either_of (some_end_at is_link_fault (ends_of works) || list_any (λ (failed : Bool). failed) (failed_of works)) (stopped_failed why) fault) [
      | inl here ↦ elim (either_of (some_end_at is_link_fault (ends_of works)) (list_any (λ (failed : Bool). failed) (failed_of works)) here) [
        | inl link ↦ inl (some_link_fault works link)
        | inr door ↦ inl (some_door_failed works door)
      ]
      | inr sources ↦ inr sources
    ]

-- The counts of an output, of sources and of doors, after a pool and what was printed of it.
module _ (text : List ℕ) (output output-after : OutputState) (doors doors-after : List ℕ) (works : List Work) (ends : List (List Noted)) (failed : List Bool) (same : ends ≡ ends_of works) (also : failed ≡ failed_of works)
    (served : HaveCause doors doors-after (one_has_fault works)) where
  pub collect_causes : (sources sources-after : ℕ) (why : Option SweepStop) (ended : Result Ending Stopped) → HasCause sources sources-after (stopped_failed why)
      → Prints text (collect_ending ends failed why) output output-after ended → HasCauses (output.faults ∷ sources ∷ doors) (output-after.faults ∷ sources-after ∷ doors-after) ended
  collect_causes sources sources-after why (Ok ending) swept print =
      let calm = pool_calm works ends failed why ending same also print.ends.0 in record {
        later = (print.later, (swept.later, served.later));
        cause = ap₂ (λ (x : ℕ) (xs : List ℕ). x ∷ xs) print.ends.2 (ap₂ (λ (x : ℕ) (xs : List ℕ). x ∷ xs)
            (subst (λ (b : Bool). MatchBool b (Rose sources sources-after) (sources-after ≡ sources)) calm.1 swept.cause)
            (subst (λ (b : Bool). MatchBool b (OneRose doors doors-after) (doors-after ≡ doors)) calm.0 served.cause));
      }
  collect_causes sources sources-after why (Err stopped.Fault) swept print = record {
    later = (print.later, (swept.later, served.later));
    cause = elim print.ends.1 [
      | inl how ↦ elim (pool_failed works ends failed why same also how.0) [
        | inl door ↦ inr (inr (subst (λ (b : Bool). MatchBool b (OneRose doors doors-after) (doors-after ≡ doors)) door served.cause))
        | inr source ↦ inr (inl (subst (λ (b : Bool). MatchBool b (Rose sources sources-after) (sources-after ≡ sources)) source swept.cause))
      ]
      | inr rose ↦ inl rose
    ];
  }
  collect_causes sources sources-after why (Err stopped.Memory) swept print = record { later = (print.later, (swept.later, served.later)); cause = tt }

  -- The same without sources.
  pub follow_causes : (ended : Result Ending Stopped) → Prints text (collect_ending ends failed None) output output-after ended → HasCauses (output.faults ∷ doors) (output-after.faults ∷ doors-after) ended
  follow_causes (Ok ending) print =
      let calm = pool_calm works ends failed None ending same also print.ends.0 in record {
        later = (print.later, served.later);
        cause = ap₂ (λ (x : ℕ) (xs : List ℕ). x ∷ xs) print.ends.2 (subst (λ (b : Bool). MatchBool b (OneRose doors doors-after) (doors-after ≡ doors)) calm.0 served.cause);
      }
  follow_causes (Err stopped.Fault) print = record {
    later = (print.later, served.later);
    cause = elim print.ends.1 [
      | inl how ↦ elim (pool_failed works ends failed None same also how.0) [
        | inl door ↦ inr (subst (λ (b : Bool). MatchBool b (OneRose doors doors-after) (doors-after ≡ doors)) door served.cause)
        | inr source ↦ absurd cc
      ]
      | inr rose ↦ inl rose
    ];
  }
  follow_causes (Err stopped.Memory) print = record { later = (print.later, served.later); cause = tt }
