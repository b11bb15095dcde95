-- The sweeps and the workers, one after another.
use Rattle.std.proofs.Common.{◌∙◌, ap}
use Rattle.book_lock.specs.Passes.{PassView}
use Rattle.session_door.specs.Visits.{door_state}
use Rattle.source_sweeps.specs.Sweepings.{sweeping}
use Rattle.session_pool.proofs.Pooling.{leaves}
use Rattle.session_pool.proofs.Serving.{all_here, all_ready}
use Rattle.session_pool.proofs.Sweeping.{shelf_still}
use Rattle.session_pool.proofs.pool.serve_over.Goals as goal

pub meet_all-requires-clause-here : goal.meet_all-requires-clause-here
meet_all-requires-clause-here g c =
    shelf_still g.S.TagSource.reports g.S.TagSource.faults c.args.config.now.sweeps (sweeping c.sweep_first-first.new.sources c.seat.new.pass (g.C.Clock.moments c.sweep_first-first.new.clock))
    (sweeping c.work_over-last.new.sources c.work_over-last.result (g.C.Clock.moments c.work_over-last.new.clock)) c.sweep_first-first.result.1.swept c.work_over-last.new.tally.swept c.sweep_first-first.result.1.stopped c.work_over-last.new.tally.stopped c.work_over-last.ensures.on
    ∙ ap (λ (p : PassView). p.shelf) c.seat.ensures.kept ∙ c.sweep_first-first.ensures.here

pub meet_all-requires-clause-others_here : goal.meet_all-requires-clause-others_here
meet_all-requires-clause-others_here g c =
    all_here g.D.L.Link.taken g.D.L.Link.given g.D.L.Link.faults (door_state g.D.Door.left g.D.Door.returned g.D.Door.last g.D.Door.faults) g.D.Door.out c.args.config.now c.seat.new.doors c.work_over-last.new.doors c.work_over-last.ensures.serves
    c.sweep_first-first.result.0 c.clear.new.passes.items c.args.doors.now c.clear.new.doors c.clear.new.outcome c.seat.ensures.passed c.clear.ensures.gives c.args.shelf.now c.sweep_first-first.ensures.here

pub returns-clause-leaves : goal.returns-clause-leaves
returns-clause-leaves g c =
    let tally = c.sweep_first-first.result.1 in
    let total = c.work_over-last.new.tally in
    leaves g.D.L.Link.taken g.D.L.Link.given g.D.L.Link.faults (door_state g.D.Door.left g.D.Door.returned g.D.Door.last g.D.Door.faults) g.D.Door.out g.S.TagSource.reports g.S.TagSource.faults c.args.config.now
    c.args.sources.now c.sweep_first-first.new.sources c.work_over-last.new.sources c.args.pass c.sweep_first-first.result.0 c.seat.new.pass c.work_over-last.result c.meet_all.new.pass
    (g.C.Clock.moments c.args.clock.now) (g.C.Clock.moments c.sweep_first-first.new.clock) (g.C.Clock.moments c.work_over-last.new.clock) c.args.doors.now c.seat.new.doors c.work_over-last.new.doors c.clear.new.doors
    tally.swept total.swept tally.stopped total.stopped c.clear.new.passes.items c.clear.new.outcome c.seat.ensures.kept
    c.sweep_first-first.ensures.once c.sweep_first-first.ensures.cause c.work_over-last.ensures.on c.work_over-last.ensures.cause c.seat.ensures.passed c.work_over-last.ensures.serves c.clear.ensures.gives
    c.meet_all.ensures.readers c.meet_all.ensures.met.begin.1

pub returns-clause-ready : goal.returns-clause-ready
returns-clause-ready g c =
    all_ready g.D.L.Link.taken g.D.L.Link.given g.D.L.Link.faults (door_state g.D.Door.left g.D.Door.returned g.D.Door.last g.D.Door.faults) g.D.Door.out c.args.config.now c.seat.new.doors c.work_over-last.new.doors c.work_over-last.ensures.serves
    c.sweep_first-first.result.0 c.clear.new.passes.items c.args.doors.now c.clear.new.doors c.clear.new.outcome c.seat.ensures.passed c.clear.ensures.gives c.requires.ready
