-- The clerk is of the pass that is given back.
use Rattle.std.proofs.Common.{subst, sym}
use Rattle.book_lock.specs.Passes.{PassStands, PassView, PassWent}
use Rattle.source_sweeps.specs.Sweepings.{GoesOn, sweeping}
use Rattle.session_pool.proofs.beside.work_over.Goals as goal

pub returns-clause-on : goal.returns-clause-on
returns-clause-on g c =
    let start = g.C.Clock.moments c.args.clock.now in
    let later = g.C.Clock.moments c.work_beside.new.clock in
    subst (λ (p : PassView). GoesOn g.S.TagSource.reports g.S.TagSource.faults PassStands PassWent c.args.config.now.sweeps (sweeping c.args.sources.now c.args.first start) c.args.tally.now.swept c.args.tally.now.stopped
    (sweeping c.work_beside.new.sources p later) c.work_beside.new.tally.swept c.work_beside.new.tally.stopped) (sym c.done.ensures.pass)
    (subst (λ (p : PassView). GoesOn g.S.TagSource.reports g.S.TagSource.faults PassStands PassWent c.args.config.now.sweeps (sweeping c.args.sources.now p start) c.args.tally.now.swept c.args.tally.now.stopped
    (sweeping c.work_beside.new.sources c.work_beside.new.clerk later) c.work_beside.new.tally.swept c.work_beside.new.tally.stopped) c.clerk-clerk.ensures.pass c.work_beside.ensures.on)
