-- Sweeps over the sources of an inventory, one after another, each with the stamp of a moment that
-- a clock gives.
use Rattle.std.specs.Prelude.{◌≡◌, ◌<◌, ◌+◌, ◌-◌, ◌^◌, ◌⊎◌, ℕ, zero, suc, Bool, false, List, Option, Some, None, Result, Ok, Err, IfSome, min}
use Rattle.std.specs.Option.{option_map}
use Rattle.wire_base.specs.Clocks.{Moments, later_moments, this_moment}
use Rattle.wire_base.specs.Stamp.{IsStampAt, LAST_SECOND}
use Rattle.collector_core.specs.declared.chronicle.Mark.{Mark}
use Rattle.collector_core.specs.Chronicle.{Chronicle}
use Rattle.source_set.specs.declared.swept.Swept.{Swept}
use Rattle.source_set.specs.declared.swept.SweepError.{SweepError}
use Rattle.source_set.specs.declared.told.Told.{Told}
use Rattle.source_set.specs.Asking.{is_failure}
use Rattle.source_set.specs.Sweeping.{HaveCauses, SetView, Sweeps, WorksInAll, is_source_failed, nothing}
use Rattle.source_sweeps.specs.declared.sweeps.SweepStop.{SweepStop}
use Rattle.source_sweeps.specs.declared.sweeps.SweepStop.TheVariants as stop

-- Sources, the desk that they change, and the moments that a clock will give, where it exposes
-- them.
pub record SweepState (B D : Type 0) : Type 0 where
  pub sources : SetView B
  pub desk : D
  pub moments : Option Moments

abbrev pub sweeping : {B D : Type 0} → SetView B → D → Option Moments → SweepState B D
sweeping sources desk moments = record { sources = sources; desk = desk; moments = moments }

-- Why a sweep stopped the sweeping, if it did.
abbrev pub stop_of : Result Unit SweepError → Option SweepStop
stop_of (Ok done) = None
stop_of (Err error) = Some (stop.Sweep error)

-- A call of a source failed, of any or of that number.
abbrev pub stopped_failed : Option SweepStop → Bool
stopped_failed (Some (stop.Sweep error)) = is_source_failed error
stopped_failed (Some (stop.ClockRange secs)) = false
stopped_failed None = false

abbrev pub stopped_failed_at : ℕ → Option SweepStop → Bool
stopped_failed_at number (Some (stop.Sweep error)) = is_failure number error
stopped_failed_at number (Some (stop.ClockRange secs)) = false
stopped_failed_at number None = false

-- The sums of the counts, each of which stops at 4294967295.
abbrev pub sum_of : ℕ → ℕ → ℕ
sum_of one other = min (one + other) (2 ^ 32 - 1)

abbrev pub added : Swept → Swept → Swept
added one other = record {
  added = sum_of one.added other.added;
  changed = sum_of one.changed other.changed;
  gone = sum_of one.gone other.gone;
  dropped = sum_of one.dropped other.dropped;
}

-- Of any sources, which report items, and any desk.
module _ {B D : Type 0} (reports : B → List Told → Type 0) (faults : B → ℕ) (stands : D → Chronicle → Type 0) (went : D → List Mark → D → Type 0) where
  -- A sweep with the stamp of a moment came to this. All that it did was done one after another,
  -- and counted.
  pub record SweepsAs (secs : ℕ) (before after : SweepState B D) (swept : Swept) (done : Result Unit SweepError) : Type 0 where
    pub stamp : List ℕ
    pub is : IsStampAt secs (Ok stamp)
    pub sweeps : Sweeps reports stands went stamp before.sources after.sources before.desk after.desk swept done
    pub works : WorksInAll reports stands went stamp before.desk after.desk swept

  -- What one sweep came to at a moment: it ended well, or an error stopped it; a moment without a
  -- stamp stops it before it begins.
  abbrev pub SweepsAt : ℕ → SweepState B D → SweepState B D → Swept → Option SweepStop → Type 0
  SweepsAt secs before after swept None = SweepsAs secs before after swept (Ok tt)
  SweepsAt secs before after swept (Some (stop.Sweep error)) = SweepsAs secs before after swept (Err error)
  SweepsAt secs before after swept (Some (stop.ClockRange late)) =
      (LAST_SECOND < secs) × (late ≡ secs) × (after.sources ≡ before.sources) × (after.desk ≡ before.desk) × (swept ≡ nothing)

  -- One sweep, at the moment that the clock gave for it.
  pub record SweepsOnce (before after : SweepState B D) (swept : Swept) (stopped : Option SweepStop) : Type 0 where
    pub secs : ℕ
    pub moment : IfSome before.moments (λ moments. secs ≡ this_moment moments)
    pub later : after.moments ≡ option_map later_moments before.moments
    pub sweeps : SweepsAt secs before after swept stopped
    pub causes : HaveCauses faults before.sources.seats after.sources.seats (λ number. stopped_failed_at number stopped)

  -- One sweep more, added to what was done before.
  abbrev pub SweepsNext : SweepState B D → Swept → SweepState B D → Swept → Option SweepStop → Type 0
  SweepsNext before done after total stopped = (swept : Swept) × SweepsOnce before after swept stopped × (total ≡ added done swept)

  -- That many sweeps, one after another. Where one stops the sweeping there are fewer, and each
  -- before it ended well. What they did is added to what was done before.
  abbrev pub SweepsOn : ℕ → SweepState B D → Swept → SweepState B D → Swept → Option SweepStop → Type 0
  SweepsOn zero before done after total stopped = (after ≡ before) × (total ≡ done) × (stopped ≡ None)
  SweepsOn (suc more) before done after total stopped =
      ((middle : SweepState B D) × (swept : Swept) × SweepsOnce before middle swept None × SweepsOn more middle (added done swept) after total stopped)
      ⊎ ((swept : Swept) × (why : SweepStop) × SweepsOnce before after swept (Some why) × (stopped ≡ Some why) × (total ≡ added done swept))

  -- The sweeps after the first, which did this and may have stopped the sweeping.
  abbrev pub GoesOn : ℕ → SweepState B D → Swept → Option SweepStop → SweepState B D → Swept → Option SweepStop → Type 0
  GoesOn sweeps first swept None after total stopped = SweepsOn (sweeps - 1) first swept after total stopped
  GoesOn sweeps first swept (Some why) after total stopped = (after ≡ first) × (total ≡ swept) × (stopped ≡ Some why)

  -- All of that many sweeps, of which the first leaves `first`.
  pub record SweepsAll (sweeps : ℕ) (before first after : SweepState B D) (total : Swept) (stopped : Option SweepStop) : Type 0 where
    pub swept : Swept
    pub firstly : Option SweepStop
    pub once : SweepsOnce before first swept firstly
    pub others : GoesOn sweeps first swept firstly after total stopped
