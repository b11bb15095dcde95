use Rattle.std.proofs.Common.{List, subst, sym}
use Rattle.session_door.specs.Visits.{Noted, Works, door_state}
use Rattle.session_door.proofs.door.work_door.Goals as goal

pub returns-clause-works : goal.returns-clause-works
returns-clause-works g c =
    subst (λ (ends : List Noted). Works (g.S.Session.held c.args.session.now) g.D.L.Link.faults c.args.sessions c.args.beside.now (door_state g.D.Door.left g.D.Door.returned g.D.Door.last g.D.Door.faults c.args.door.now)
    c.visit_all-stop.new.beside (door_state g.D.Door.left g.D.Door.returned g.D.Door.last g.D.Door.faults c.visit_all-stop.new.door) (record { ends = ends; stop = c.visit_all-stop.result })) (sym c.from_vec.ensures.items) c.visit_all-stop.ensures.works
