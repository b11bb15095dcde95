-- What sweeps leave of the count of faults, and of the pass that they are made over.
use Rattle.std.proofs.Common.{◌≡◌, ◌-◌, ◌++◌, inl, inr, ℕ, zero, suc, List, [], Option, Some, None, refl, sym, ap, subst}
use Rattle.collector_core.specs.declared.chronicle.Mark.{Mark}
use Rattle.collector_core.specs.Chronicle.{Chronicle}
use Rattle.book_lock.specs.Passes.{PassStands, PassView, PassWent}
use Rattle.book_lock.specs.PassDesk.{pass_went_on, stays_pass}
use Rattle.wire_base.specs.Outside.{HasCause}
use Rattle.source_set.specs.declared.swept.Swept.{Swept}
use Rattle.source_set.specs.declared.told.Told.{Told}
use Rattle.source_sweeps.specs.declared.sweeps.SweepStop.{SweepStop}
use Rattle.source_sweeps.specs.declared.sweeps.SweepStop.TheVariants as stop
use Rattle.source_sweeps.specs.Sweepings.{GoesOn, SweepState, SweepsAll, SweepsAt, SweepsOn, SweepsOnce, added, stopped_failed}
use Rattle.session_door.proofs.Counting.{cause_then}

-- ---- faults

module _ {B D : Type 0} (reports : B → List Told → Type 0) (faults : B → ℕ) (stands : D → Chronicle → Type 0) (went : D → List Mark → D → Type 0) where
  -- The sweeps after the first have a fault exactly where they were stopped by one, and there are
  -- none where the first was.
  pub all_cause : (sweeps before : ℕ) (first after : SweepState B D) (swept total : Swept) (firstly stopped : Option SweepStop) → HasCause before first.sources.faults (stopped_failed firstly)
      → (firstly ≡ None → HasCause first.sources.faults after.sources.faults (stopped_failed stopped)) → GoesOn reports faults stands went sweeps first swept firstly after total stopped
      → HasCause before after.sources.faults (stopped_failed stopped)
  all_cause sweeps before first after swept total None stopped once others on = cause_then before first.sources.faults after.sources.faults (stopped_failed None) (stopped_failed stopped) once (others refl)
  all_cause sweeps before first after swept total (Some why) stopped once others on =
      subst (λ (s : Option SweepStop). HasCause before after.sources.faults (stopped_failed s)) (sym on.2)
      (subst (λ (s : SweepState B D). HasCause before s.sources.faults (stopped_failed (Some why))) (sym on.0) once)

-- ---- entries

module _ {B : Type 0} (reports : B → List Told → Type 0) (faults : B → ℕ) where
  -- From the one pass to the other these entries came.
  abbrev pub Went : SweepState B PassView → SweepState B PassView → Type 0
  Went before after = (marks : List Mark) × PassWent before.desk marks after.desk

  went_still : (before after : SweepState B PassView) → after.desk ≡ before.desk → Went before after
  went_still before after same = ([], subst (PassWent before.desk []) (sym same) (stays_pass before.desk))

  went_then : (one two three : SweepState B PassView) → Went one two → Went two three → Went one three
  went_then one two three a b = (a.0 ++ b.0, pass_went_on one.desk two.desk three.desk a.0 b.0 a.1 b.1)

  went_at : (secs : ℕ) (before after : SweepState B PassView) (swept : Swept) (stopped : Option SweepStop) → SweepsAt reports faults PassStands PassWent secs before after swept stopped → Went before after
  went_at secs before after swept None made = (made.works.1.marks, made.works.1.grows)
  went_at secs before after swept (Some (stop.Sweep error)) made = (made.works.1.marks, made.works.1.grows)
  went_at secs before after swept (Some (stop.ClockRange late)) made = went_still before after made.3

  went_once : (before after : SweepState B PassView) (swept : Swept) (stopped : Option SweepStop) → SweepsOnce reports faults PassStands PassWent before after swept stopped → Went before after
  went_once before after swept stopped once = went_at once.secs before after swept stopped once.sweeps

  went_on : (count : ℕ) (before after : SweepState B PassView) (done total : Swept) (stopped : Option SweepStop) → SweepsOn reports faults PassStands PassWent count before done after total stopped → Went before after
  went_on zero before after done total stopped made = went_still before after (ap (λ (s : SweepState B PassView). s.desk) made.0)
  went_on (suc more) before after done total stopped (inl made) =
      went_then before made.0 after (went_once before made.0 made.1 None made.2) (went_on more made.0 after (added done made.1) total stopped made.3)
  went_on (suc more) before after done total stopped (inr made) = went_once before after made.0 (Some made.1) made.2

  went_others : (sweeps : ℕ) (first after : SweepState B PassView) (swept total : Swept) (firstly stopped : Option SweepStop) → GoesOn reports faults PassStands PassWent sweeps first swept firstly after total stopped
      → Went first after
  went_others sweeps first after swept total None stopped made = went_on (sweeps - 1) first after swept total stopped made
  went_others sweeps first after swept total (Some why) stopped made = went_still first after (ap (λ (s : SweepState B PassView). s.desk) made.0)

  pub went_first : (sweeps : ℕ) (before first after : SweepState B PassView) (total : Swept) (stopped : Option SweepStop) → SweepsAll reports faults PassStands PassWent sweeps before first after total stopped → Went before first
  went_first sweeps before first after total stopped all = went_once before first all.swept all.firstly all.once

  pub went_all : (sweeps : ℕ) (before first after : SweepState B PassView) (total : Swept) (stopped : Option SweepStop) → SweepsAll reports faults PassStands PassWent sweeps before first after total stopped → Went before after
  went_all sweeps before first after total stopped all =
      went_then before first after (went_first sweeps before first after total stopped all) (went_others sweeps first after all.swept total all.firstly stopped all.others)

  -- The shelf is the same.
  pub shelf_once : (before after : SweepState B PassView) (swept : Swept) (stopped : Option SweepStop) → SweepsOnce reports faults PassStands PassWent before after swept stopped
      → after.desk.shelf ≡ before.desk.shelf
  shelf_once before after swept stopped once = (went_once before after swept stopped once).1.shelf

  pub shelf_still : (sweeps : ℕ) (first after : SweepState B PassView) (swept total : Swept) (firstly stopped : Option SweepStop) → GoesOn reports faults PassStands PassWent sweeps first swept firstly after total stopped
      → after.desk.shelf ≡ first.desk.shelf
  shelf_still sweeps first after swept total firstly stopped made = (went_others sweeps first after swept total firstly stopped made).1.shelf
