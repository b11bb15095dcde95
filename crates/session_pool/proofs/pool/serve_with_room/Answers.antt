-- The whole pass is as the pass of the call was.
use Rattle.std.proofs.Common.{◌∙◌, subst}
use Rattle.book_lock.specs.Passes.{PassView}
use Rattle.session_door.specs.Visits.{door_state}
use Rattle.source_sweeps.specs.Sweepings.{sweeping}
use Rattle.session_pool.specs.Servers.{LeavesOutcome}
use Rattle.session_pool.proofs.Serving.{unsplit}
use Rattle.session_pool.proofs.pool.serve_with_room.Goals as goal

pub returns-clause-leaves : goal.returns-clause-leaves
returns-clause-leaves g c =
    subst (λ (p : PassView). LeavesOutcome g.D.L.Link.taken g.D.L.Link.given g.D.L.Link.faults (door_state g.D.Door.left g.D.Door.returned g.D.Door.last g.D.Door.faults) g.S.TagSource.reports g.S.TagSource.faults c.args.config.now
    (sweeping c.args.sources.now p (g.C.Clock.moments c.args.clock.now)) c.args.doors.now (sweeping c.serve_over-last.new.sources c.serve_over-last.result.0 (g.C.Clock.moments c.serve_over-last.new.clock)) c.serve_over-last.new.doors
    c.serve_over-last.result.1.swept c.serve_over-last.result.1.stopped c.serve_over-last.new.outcome) (c.replace-whole.ensures.value ∙ unsplit _ c.args.pass.now c.split-reader.ensures.kept) c.serve_over-last.ensures.leaves
