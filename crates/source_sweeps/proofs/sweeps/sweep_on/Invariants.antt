-- The sweeps that were made, none of which stopped the sweeping.
use Rattle.std.proofs.Common.{◌≡◌, None, true}
use Rattle.source_sweeps.specs.Sweepings.{sweeping}
use Rattle.source_sweeps.proofs.SweepsMade.{Made}
use Rattle.source_sweeps.proofs.sweeps.sweep_on.Given as goal

abbrev pub invariant-loop : goal.invariant-loop
invariant-loop g l = record {
  made : Made g.S.TagSource.reports g.S.TagSource.faults g.K.Desk.stands g.K.Desk.went l.counter (sweeping l.fn.sources l.fn.desk (g.C.Clock.moments l.fn.clock)) l.fn.tally.swept
      (sweeping l.sources l.desk (g.C.Clock.moments l.clock)) l.tally.swept;
  going : l.tally.stopped ≡ None;
  calm : l.sources.faults ≡ l.fn.sources.faults;
  takes : g.K.Desk.takes l.desk ≡ true;
}
