use Rattle.std.proofs.Common.{Option, subst, sym}
use Rattle.source_sweeps.specs.declared.sweeps.SweepStop.{SweepStop}
use Rattle.source_sweeps.specs.Sweepings.{SweepsOnce, sweeping}
use Rattle.source_sweeps.proofs.SweepsMade.{swept_once}
use Rattle.source_sweeps.proofs.sweeps.sweep_once.Goals as goal

pub returns-in-Ok-clause-once : goal.returns-in-Ok-clause-once
returns-in-Ok-clause-once g c =
    let before = sweeping c.args.sources.now c.args.desk.now (g.C.Clock.moments c.args.clock.now) in
    let after = sweeping c.sweep-done.new.self c.sweep-done.new.desk (g.C.Clock.moments c.now-secs.new.self) in
    subst (λ (stopped : Option SweepStop). SweepsOnce g.S.TagSource.reports g.S.TagSource.faults g.K.Desk.stands g.K.Desk.went before after c.sweep-done.result.0 stopped) (sym c.stop_of.ensures.stop)
    (swept_once g.S.TagSource.reports g.S.TagSource.faults g.K.Desk.stands g.K.Desk.went c.now-secs.result c.in-Ok.stamp before after c.sweep-done.result.0 c.sweep-done.result.1
    c.now-secs.ensures.moment c.now-secs.ensures.later c.in-Ok.ensures.text c.sweep-done.ensures.swept c.sweep-done.ensures.works c.sweep-done.ensures.causes)
