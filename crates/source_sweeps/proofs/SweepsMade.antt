-- Sweeps after those that were made.
use Rattle.std.proofs.Common.{◌≡◌, ◌<◌, ◌+◌, ◌-◌, ℕ, zero, suc, Bool, false, true, true≢false, is_none, List, Option, Some, None, Result, Ok, Err, IfSome, get_or, length, inl, inr, refl, sym, ap, ◌∙◌, subst, add-zero, arith}
use Rattle.std.specs.Option.{option_map}
use Rattle.wire_base.specs.Clocks.{later_moments, this_moment}
use Rattle.wire_base.specs.Outside.{HasCause}
use Rattle.wire_base.specs.Stamp.{IsStampAt, LAST_SECOND}
use Rattle.collector_core.specs.declared.chronicle.Mark.{Mark}
use Rattle.collector_core.specs.Chronicle.{Chronicle}
use Rattle.source_set.specs.declared.swept.Swept.{Swept}
use Rattle.source_set.specs.declared.told.Told.{Told}
use Rattle.source_sweeps.specs.declared.sweeps.SweepStop.{SweepStop}
use Rattle.source_set.specs.declared.swept.SweepError.{SweepError}
use Rattle.source_set.specs.Asking.{HasCauseAt}
use Rattle.source_set.specs.Sweeping.{HaveCauses, SetView, Sweeps, WorksInAll, is_failed_at, nothing, sweep_failed}
use Rattle.source_sweeps.specs.declared.sweeps.SweepStop.TheVariants as stop
use Rattle.source_sweeps.specs.Sweepings.{SweepState, SweepsAt, SweepsNext, SweepsOn, SweepsOnce, added, stop_of, stopped_failed, stopped_failed_at}

-- ---- one sweep

same_failure : (number : ℕ) (done : Result Unit SweepError) → is_failed_at number done ≡ stopped_failed_at number (stop_of done)
same_failure number (Ok done) = refl
same_failure number (Err error) = refl

pub same_fault : (done : Result Unit SweepError) → sweep_failed done ≡ stopped_failed (stop_of done)
same_fault (Ok done) = refl
same_fault (Err error) = refl

module _ {B D : Type 0} (reports : B → List Told → Type 0) (faults : B → ℕ) (stands : D → Chronicle → Type 0) (went : D → List Mark → D → Type 0) where
  swept_at : (secs : ℕ) (stamp : List ℕ) (before after : SweepState B D) (swept : Swept) (done : Result Unit SweepError) → IsStampAt secs (Ok stamp)
      → Sweeps reports stands went stamp before.sources after.sources before.desk after.desk swept done → WorksInAll reports stands went stamp before.desk after.desk swept
      → SweepsAt reports faults stands went secs before after swept (stop_of done)
  swept_at secs stamp before after swept (Ok done) is sweeps works = record { stamp = stamp; is = is; sweeps = sweeps; works = works }
  swept_at secs stamp before after swept (Err error) is sweeps works = record { stamp = stamp; is = is; sweeps = sweeps; works = works }

  -- The sweep was made.
  pub swept_once : (secs : ℕ) (stamp : List ℕ) (before after : SweepState B D) (swept : Swept) (done : Result Unit SweepError) → IfSome before.moments (λ moments. secs ≡ this_moment moments)
      → after.moments ≡ option_map later_moments before.moments → IsStampAt secs (Ok stamp) → Sweeps reports stands went stamp before.sources after.sources before.desk after.desk swept done
      → WorksInAll reports stands went stamp before.desk after.desk swept → HaveCauses faults before.sources.seats after.sources.seats (λ number. is_failed_at number done) → SweepsOnce reports faults stands went before after swept (stop_of done)
  swept_once secs stamp before after swept done moment later is sweeps works causes = record {
    secs = secs;
    moment = moment;
    later = later;
    sweeps = swept_at secs stamp before after swept done is sweeps works;
    causes = (causes.0, λ number seat less. subst (λ (failed : Bool). HasCauseAt faults (get_or before.sources.seats number seat).source (get_or after.sources.seats number seat).source failed) (same_failure number done) (causes.1 number seat less));
  }

  calm_at : (source : Option B) → HasCauseAt faults source source false
  calm_at None = (refl, refl)
  calm_at (Some source) = record { later = omega arith; cause = refl }

  -- The moment had no stamp, and nothing was done.
  pub out_of_range : (secs late : ℕ) (before after : SweepState B D) → IfSome before.moments (λ moments. secs ≡ this_moment moments) → after.moments ≡ option_map later_moments before.moments
      → LAST_SECOND < secs → late ≡ secs → after.sources ≡ before.sources → after.desk ≡ before.desk → SweepsOnce reports faults stands went before after nothing (Some (stop.ClockRange late))
  out_of_range secs late before after moment later range is same same-desk = record {
    secs = secs;
    moment = moment;
    later = later;
    sweeps = (range, is, same, same-desk, refl);
    causes = (ap (λ (set : SetView B). length set.seats) same, λ number seat less. subst (λ (set : SetView B). HasCauseAt faults (get_or before.sources.seats number seat).source (get_or set.seats number seat).source false) (sym same) (calm_at (get_or before.sources.seats number seat).source));
  }

-- ---- whether it goes on

pub goes_on : (stopped : Option SweepStop) → is_none stopped ≡ true → stopped ≡ None
goes_on None none = refl
goes_on (Some why) none = absurd (true≢false (sym none))

-- A sweep that does not stop the sweeping has no fault.
pub calm_still : (before now next : ℕ) (stopped : Option SweepStop) → stopped ≡ None → now ≡ before → HasCause now next (stopped_failed stopped) → next ≡ before
calm_still before now next stopped none same cause = (subst (λ (s : Option SweepStop). HasCause now next (stopped_failed s)) none cause).cause ∙ same

-- ---- sweeps in a row

module _ {B D : Type 0} (reports : B → List Told → Type 0) (faults : B → ℕ) (stands : D → Chronicle → Type 0) (went : D → List Mark → D → Type 0) where
  -- That many sweeps were made, and none stopped the sweeping: whatever follows, they and it are
  -- sweeps in a row.
  abbrev pub Made : ℕ → SweepState B D → Swept → SweepState B D → Swept → Type 0
  Made count start done now total = (more : ℕ) (after : SweepState B D) (all : Swept) (stopped : Option SweepStop) → SweepsOn reports faults stands went more now total after all stopped
      → SweepsOn reports faults stands went (count + more) start done after all stopped

  pub none_made : (start : SweepState B D) (done : Swept) → Made 0 start done start done
  none_made start done more after all stopped on = subst (λ (n : ℕ). SweepsOn reports faults stands went n start done after all stopped) (sym (zero-plus more)) on
    where
      zero-plus : (n : ℕ) → 0 + n ≡ n
      zero-plus n = omega arith

  pub one_made : (count : ℕ) (start now next : SweepState B D) (done total swept : Swept) → Made count start done now total → SweepsOnce reports faults stands went now next swept None
      → Made (count + 1) start done next (added total swept)
  one_made count start now next done total swept made once more after all stopped on =
      subst (λ (n : ℕ). SweepsOn reports faults stands went n start done after all stopped) (one_later count more)
      (made (suc more) after all stopped (inl (next, swept, once, on)))
    where
      one_later : (n m : ℕ) → n + suc m ≡ (n + 1) + m
      one_later n m = omega arith

  pub all_made : (count : ℕ) (start now : SweepState B D) (done total : Swept) → Made count start done now total → SweepsOn reports faults stands went count start done now total None
  all_made count start now done total made =
      subst (λ (n : ℕ). SweepsOn reports faults stands went n start done now total None) (add-zero count) (made 0 now total None (refl, refl, refl))

  pub made_stopped : (count sweeps : ℕ) (start now next : SweepState B D) (done total swept : Swept) (why : SweepStop) → count < sweeps → Made count start done now total
      → SweepsOnce reports faults stands went now next swept (Some why) → SweepsOn reports faults stands went sweeps start done next (added total swept) (Some why)
  made_stopped count sweeps start now next done total swept why less made once =
      subst (λ (n : ℕ). SweepsOn reports faults stands went n start done next (added total swept) (Some why)) (rest_of count sweeps less)
      (made (suc (sweeps - suc count)) next (added total swept) (Some why) (inr (swept, why, once, refl, refl)))
    where
      rest_of : (n m : ℕ) → n < m → n + suc (m - suc n) ≡ m
      rest_of n m less = omega (arith, less)

  -- One more was made, which goes on or stops the sweeping.
  pub next_made : (count : ℕ) (start now next : SweepState B D) (done total after : Swept) (stopped : Option SweepStop) → stopped ≡ None → Made count start done now total
      → SweepsNext reports faults stands went now total next after stopped → Made (count + 1) start done next after
  next_made count start now next done total after stopped none made one =
      subst (λ (t : Swept). Made (count + 1) start done next t) (sym one.2)
      (one_made count start now next done total one.0 made (subst (SweepsOnce reports faults stands went now next one.0) none one.1))

  pub next_stopped : (count sweeps : ℕ) (start now next : SweepState B D) (done total after : Swept) (stopped : Option SweepStop) → is_none stopped ≡ false → count < sweeps → Made count start done now total
      → SweepsNext reports faults stands went now total next after stopped → SweepsOn reports faults stands went sweeps start done next after stopped
  next_stopped count sweeps start now next done total after None some less made one = absurd (true≢false some)
  next_stopped count sweeps start now next done total after (Some why) some less made one =
      subst (λ (t : Swept). SweepsOn reports faults stands went sweeps start done next t (Some why)) (sym one.2)
      (made_stopped count sweeps start now next done total one.0 why less made one.1)
