use Rattle.session_door.specs.Visits.{door_state}
use Rattle.session_door.proofs.StaysRight.{followed_door}
use Rattle.session_door.proofs.follow.follow_door.Goals as goal

pub returns-clause-followed : goal.returns-clause-followed
returns-clause-followed g c =
    followed_door g.D.L.Link.taken g.D.L.Link.given g.D.L.Link.faults c.args.config.now c.args.sessions c.args.mirror.now c.work_door.new.beside
    (door_state g.D.Door.left g.D.Door.returned g.D.Door.last g.D.Door.faults c.args.door.now) (door_state g.D.Door.left g.D.Door.returned g.D.Door.last g.D.Door.faults c.work_door.new.door)
    c.work_door.result c.work_door.ensures.works
