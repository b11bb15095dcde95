use Rattle.std.proofs.Common.{subst, sym}
use Rattle.book_lock.specs.Passes.{PassView}
use Rattle.session_door.specs.Serving.{ServedOn}
use Rattle.session_door.specs.Visits.{Works, door_state}
use Rattle.session_door.proofs.SessionsOver.{served_door}
use Rattle.session_door.proofs.serve.serve_door.Goals as goal

pub returns-clause-served : goal.returns-clause-served
returns-clause-served g c =
    let door = door_state g.D.Door.left g.D.Door.returned g.D.Door.last g.D.Door.faults c.args.door.now in
    let later = door_state g.D.Door.left g.D.Door.returned g.D.Door.last g.D.Door.faults c.work_door-work.new.door in
    let held = ServedOn g.D.L.Link.taken g.D.L.Link.given c.args.config.now in
    served_door g.D.L.Link.taken g.D.L.Link.given g.D.L.Link.faults c.args.config.now c.args.sessions c.args.pass c.done.result door later c.work_door-work.result
    (subst (λ (p : PassView). Works held g.D.L.Link.faults c.args.sessions c.args.pass door p later c.work_door-work.result) (sym c.done.ensures.pass)
    (subst (λ (p : PassView). Works held g.D.L.Link.faults c.args.sessions p door c.work_door-work.new.beside later c.work_door-work.result) c.clerk-clerk.ensures.pass c.work_door-work.ensures.works))
