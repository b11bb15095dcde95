use Rattle.session_door.specs.Visits.{door_state}
use Rattle.session_door.proofs.Visiting.{visited}
use Rattle.session_door.proofs.door.visit_next.Goals as goal

pub returns-in-Link-clause-visits : goal.returns-in-Link-clause-visits
returns-in-Link-clause-visits g c =
    visited (g.S.Session.held c.args.session.now) g.D.L.Link.faults c.args.beside.now c.hold-noted.new.beside c.in-Link.link c.hold-noted.new.link c.hold-noted.result
    (door_state g.D.Door.left g.D.Door.returned g.D.Door.last g.D.Door.faults c.args.door.now) (door_state g.D.Door.left g.D.Door.returned g.D.Door.last g.D.Door.faults c.next.new.self)
    (door_state g.D.Door.left g.D.Door.returned g.D.Door.last g.D.Door.faults c.back.new.self)
    c.hold-noted.ensures.held c.in-Link.ensures.fresh c.hold-noted.ensures.cause c.in-Link.ensures.comes c.in-Link.ensures.returned c.in-Link.ensures.last c.in-Link.ensures.cause
    c.back.ensures.returned c.back.ensures.left c.back.ensures.last c.back.ensures.cause
