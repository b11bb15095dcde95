use Rattle.std.proofs.Common.{◌≡◌, ◌<◌, ℕ, None, Option, arith, rules, subst, sym}
use Rattle.wire_base.specs.Clocks.{Moments}
use Rattle.source_sweeps.specs.declared.sweeps.SweepStop.{SweepStop}
use Rattle.source_sweeps.specs.Sweepings.{SweepsOn, sweeping}
use Rattle.source_sweeps.proofs.SweepsMade.{Made, all_made, calm_still, goes_on, next_made, next_stopped, none_made}
use Rattle.source_sweeps.proofs.sweeps.sweep_on.Goals as goal

pub loop-init : goal.loop-init
loop-init g c =
    let start = sweeping c.args.sources.now c.args.desk.now (g.C.Clock.moments c.args.clock.now) in record {
      made = subst (λ (m : Option Moments). Made g.S.TagSource.reports g.S.TagSource.faults g.K.Desk.stands g.K.Desk.went 0 start c.args.tally.now.swept (sweeping c.args.sources.now c.args.desk.now m) c.args.tally.now.swept)
          (sym c.rest.ensures.moments) (none_made g.S.TagSource.reports g.S.TagSource.faults g.K.Desk.stands g.K.Desk.went start c.args.tally.now.swept);
      going = c.requires.going;
      calm = search rules;
      takes = c.requires.takes;
    }

pub loop-preserved : goal.loop-preserved
loop-preserved g c =
    let start = sweeping c.args.sources.now c.args.desk.now (g.C.Clock.moments c.args.clock.now) in
    let now = sweeping c.loop.sources c.loop.desk (g.C.Clock.moments c.loop.clock) in
    let next = sweeping c.sweep_next-goes_on.new.sources c.sweep_next-goes_on.new.desk (g.C.Clock.moments c.sweep_next-goes_on.new.clock) in
    let none : c.sweep_next-goes_on.new.tally.stopped ≡ None = goes_on c.sweep_next-goes_on.new.tally.stopped (sym c.if-not-goes_on.ensures.goes) in record {
      made = next_made g.S.TagSource.reports g.S.TagSource.faults g.K.Desk.stands g.K.Desk.went c.loop.counter start now next c.args.tally.now.swept c.loop.tally.swept c.sweep_next-goes_on.new.tally.swept
          c.sweep_next-goes_on.new.tally.stopped none c.loop.invariant.made c.if-not-goes_on.ensures.next;
      going = none;
      calm = calm_still c.args.sources.now.faults c.loop.sources.faults c.sweep_next-goes_on.new.sources.faults c.sweep_next-goes_on.new.tally.stopped none c.loop.invariant.calm c.if-not-goes_on.ensures.cause;
      takes = c.if-not-goes_on.ensures.takes;
    }

pub returns-then-not-goes_on-clause-on : goal.returns-then-not-goes_on-clause-on
returns-then-not-goes_on-clause-on g c =
    let start = sweeping c.args.sources.now c.args.desk.now (g.C.Clock.moments c.args.clock.now) in
    let now = sweeping c.loop.sources c.loop.desk (g.C.Clock.moments c.loop.clock) in
    let next = sweeping c.sweep_next-goes_on.new.sources c.sweep_next-goes_on.new.desk (g.C.Clock.moments c.sweep_next-goes_on.new.clock) in
    let less : c.loop.counter < c.args.count = omega (arith, c.loop-test.true) in
    next_stopped g.S.TagSource.reports g.S.TagSource.faults g.K.Desk.stands g.K.Desk.went c.loop.counter c.args.count start now next c.args.tally.now.swept c.loop.tally.swept c.sweep_next-goes_on.new.tally.swept
    c.sweep_next-goes_on.new.tally.stopped (sym c.if-not-goes_on.ensures.goes) less c.loop.invariant.made c.if-not-goes_on.ensures.next

pub returns-clause-on : goal.returns-clause-on
returns-clause-on g c =
    let start = sweeping c.args.sources.now c.args.desk.now (g.C.Clock.moments c.args.clock.now) in
    let now = sweeping c.loop.sources c.loop.desk (g.C.Clock.moments c.loop.clock) in
    let all : c.loop.counter ≡ c.args.count = omega (arith, c.loop-test.false, c.loop.auto.counter-end) in
    subst (λ (stopped : Option SweepStop). SweepsOn g.S.TagSource.reports g.S.TagSource.faults g.K.Desk.stands g.K.Desk.went c.args.count start c.args.tally.now.swept now c.loop.tally.swept stopped) (sym c.loop.invariant.going)
    (subst (λ (n : ℕ). SweepsOn g.S.TagSource.reports g.S.TagSource.faults g.K.Desk.stands g.K.Desk.went n start c.args.tally.now.swept now c.loop.tally.swept None) all
    (all_made g.S.TagSource.reports g.S.TagSource.faults g.K.Desk.stands g.K.Desk.went c.loop.counter start now c.args.tally.now.swept c.loop.tally.swept c.loop.invariant.made))
