-- A pool that served: the sweeps, the workers, and what is answered.
use Rattle.std.proofs.Common.{◌≡◌, ◌++◌, ℕ, Bool, true, false, true≢false, List, Option, None, Result, Ok, Err, refl, subst, sym}
use Rattle.std.specs.Prelude.{is_err}
use Rattle.wire_base.specs.Clocks.{Moments}
use Rattle.wire_base.specs.Outside.{HasCause}
use Rattle.wire_base.specs.Turns.{Turn}
use Rattle.wire_base.specs.declared.values.memory.Memory.{Memory}
use Rattle.book_lock.specs.Passes.{Grows, PassStands, PassView, PassWent, split_from}
use Rattle.book_lock.specs.PassDesk.{pass_went_on}
use Rattle.book_lock.specs.Together.{AllBegin, AreReaders}
use Rattle.source_set.specs.Sweeping.{SetView}
use Rattle.source_set.specs.declared.swept.Swept.{Swept}
use Rattle.source_set.specs.declared.told.Told.{Told}
use Rattle.source_sweeps.specs.declared.sweeps.SweepStop.{SweepStop}
use Rattle.source_sweeps.specs.Sweepings.{GoesOn, SweepsAll, SweepsOnce, stopped_failed, sweeping}
use Rattle.session_door.specs.declared.work.Work.{Work}
use Rattle.session_door.specs.Visits.{DoorState}
use Rattle.session_pool.specs.declared.config.PoolConfig.{PoolConfig}
use Rattle.session_pool.specs.declared.outcome.Outcome.{Outcome}
use Rattle.session_pool.specs.declared.pool.Served.{Served}
use Rattle.session_pool.specs.declared.stand.Stand.{Stand}
use Rattle.session_pool.specs.Outcomes.{one_ran_out}
use Rattle.session_pool.specs.Rooms.{ArePassed, GivePasses}
use Rattle.session_pool.specs.Servers.{AnswersServed, LeavesOutcome, ServesAndSweeps}
use Rattle.session_pool.specs.Stands.{AtEach, ServesAt}
use Rattle.session_pool.proofs.Serving.{all_readers, served_all}
use Rattle.session_pool.proofs.Sweeping.{Went, all_cause, went_all}

-- What is answered where memory ran out for one of the workers.
pub lacked : (works : List Work) (total : Swept) (stopped : Option SweepStop) (result : Result Served Memory) → is_err result ≡ true → one_ran_out works ≡ true → AnswersServed works total stopped result
lacked works total stopped (Ok all) failed out = absurd (true≢false (sym failed))
lacked works total stopped (Err memory) failed out = out

-- Of any doors, of which `state` is what they expose, and any links and sources.
module _ {D L B : Type 0} (taken : L → Option (List Turn)) (given : L → Option (List ℕ)) (faults : L → ℕ) (state : D → DoorState L) (out : D → Bool) (reports : B → List Told → Type 0) (source_faults : B → ℕ)
    (c : PoolConfig) (set one two : SetView B) (pass first kept last met : PassView) (start middle end : Option Moments) (before seated after left : List (Stand D)) (swept total : Swept) (firstly stopped : Option SweepStop)
    (passes : List PassView) (outcome : Outcome) (kept_is : kept ≡ first)
    (once : SweepsOnce reports source_faults PassStands PassWent (sweeping set pass start) (sweeping one first middle) swept firstly) (once_cause : HasCause set.faults one.faults (stopped_failed firstly))
    (others : GoesOn reports source_faults PassStands PassWent c.sweeps (sweeping one kept middle) swept firstly (sweeping two last end) total stopped)
    (others_cause : firstly ≡ None → HasCause one.faults two.faults (stopped_failed stopped)) (put : ArePassed (split_from first false) before seated)
    (far : AtEach (ServesAt taken given faults state out c.serve c.sessions) seated after) (gives : GivePasses after passes left outcome) (readers_grow : AreReaders passes → Grows last met) (begin : AllBegin passes met.seen) where
  -- The others began over what the first sweep came to.
  from_first : GoesOn reports source_faults PassStands PassWent c.sweeps (sweeping one first middle) swept firstly (sweeping two last end) total stopped
  from_first = subst (λ (p : PassView). GoesOn reports source_faults PassStands PassWent c.sweeps (sweeping one p middle) swept firstly (sweeping two last end) total stopped) kept_is others

  grows : Grows last met
  grows = readers_grow (all_readers taken given faults state out c seated after far first passes before left outcome put gives)

  all_sweeps : SweepsAll reports source_faults PassStands PassWent c.sweeps (sweeping set pass start) (sweeping one first middle) (sweeping two last end) total stopped
  all_sweeps = record { swept = swept; firstly = firstly; once = once; others = from_first }

  to_last : Went reports source_faults (sweeping set pass start) (sweeping two last end)
  to_last = went_all reports source_faults c.sweeps (sweeping set pass start) (sweeping one first middle) (sweeping two last end) total stopped all_sweeps

  during : (result : Result Served Memory) → AnswersServed gives.works total stopped result
      → ServesAndSweeps taken given faults state reports source_faults c (sweeping set pass start) before (sweeping two met end) left result
  during result answers = record {
    first = sweeping one first middle;
    last = sweeping two last end;
    total = total;
    stopped = stopped;
    sweeps = all_sweeps;
    sources = refl;
    moments = refl;
    cause = all_cause reports source_faults PassStands PassWent c.sweeps set.faults (sweeping one first middle) (sweeping two last end) swept total firstly stopped once_cause others_cause from_first;
    met = grows;
    marks = to_last.0 ++ grows.0;
    went = pass_went_on pass last met to_last.0 grows.0 to_last.1 grows.2;
    works = gives.works;
    serves = served_all taken given faults state out c seated after far first passes before left outcome put gives met begin;
    answers = answers;
  }

  pub leaves : LeavesOutcome taken given faults state reports source_faults c (sweeping set pass start) before (sweeping two met end) left total stopped outcome
  leaves = record { works = gives.works; came = gives.came; answered = during }
