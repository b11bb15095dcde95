use Rattle.std.proofs.Common.{◌∙◌, inl}
use Rattle.session_door.specs.Visits.{door_state}
use Rattle.session_pool.proofs.Clearing.{came_of, one_lacked}
use Rattle.session_pool.proofs.Following.{all_ready, followed_all, lacked, seated_home, seated_mirrors}
use Rattle.session_pool.proofs.follow_pool.follow_all.Goals as goal

pub follow_stands-requires-clause-home : goal.follow_stands-requires-clause-home
follow_stands-requires-clause-home g c κs within = seated_home g.D.Door.out c.args.mirrors.now c.args.doors.now c.seat.new.doors c.seat.ensures.seated c.requires.ready

pub follow_stands-requires-clause-mirrors : goal.follow_stands-requires-clause-mirrors
follow_stands-requires-clause-mirrors g c κs within = seated_mirrors g.D.Door.out c.args.mirrors.now c.args.doors.now c.seat.new.doors c.seat.ensures.seated

pub returns-in_err-ends : goal.returns-in_err-ends
returns-in_err-ends g c =
    let gives = c.clear.ensures.gives in
    let out = one_lacked gives.works c.clear.new.outcome gives.came c.in_err-ends.ensures.memory in
    record {
      followed = inl (
        gives.works,
        followed_all g.D.L.Link.taken g.D.L.Link.given g.D.L.Link.faults (door_state g.D.Door.left g.D.Door.returned g.D.Door.last g.D.Door.faults) g.D.Door.out c.args.config.now c.args.sessions c.seat.new.doors c.follow_stands.new.doors
            c.follow_stands.ensures.follows c.args.mirrors.now c.clear.new.mirrors c.args.doors.now c.clear.new.doors c.clear.new.outcome c.seat.ensures.seated gives c.requires.many (c.clear.ensures.many ∙ c.seat.ensures.many),
        lacked gives.works c.from_residual-in_err-ends.result c.from_residual-in_err-ends.ensures.0 out,
      );
      ready =
          all_ready g.D.L.Link.taken g.D.L.Link.given g.D.L.Link.faults (door_state g.D.Door.left g.D.Door.returned g.D.Door.last g.D.Door.faults) g.D.Door.out c.args.config.now c.args.sessions c.seat.new.doors c.follow_stands.new.doors
          c.follow_stands.ensures.follows c.args.mirrors.now c.clear.new.mirrors c.args.doors.now c.clear.new.doors c.clear.new.outcome c.seat.ensures.seated gives c.requires.ready;
    }

pub returns : goal.returns
returns g c =
    let gives = c.clear.ensures.gives in
    let whole = c.in_ok-ends.ensures.whole in
    record {
      followed = inl (
        gives.works,
        followed_all g.D.L.Link.taken g.D.L.Link.given g.D.L.Link.faults (door_state g.D.Door.left g.D.Door.returned g.D.Door.last g.D.Door.faults) g.D.Door.out c.args.config.now c.args.sessions c.seat.new.doors c.follow_stands.new.doors
            c.follow_stands.ensures.follows c.args.mirrors.now c.clear.new.mirrors c.args.doors.now c.clear.new.doors c.clear.new.outcome c.seat.ensures.seated gives c.requires.many (c.clear.ensures.many ∙ c.seat.ensures.many),
        came_of gives.works c.clear.new.outcome c.in_ok-ends.ends c.in_ok-ends.door_failed gives.came whole.0 whole.1 whole.2,
      );
      ready =
          all_ready g.D.L.Link.taken g.D.L.Link.given g.D.L.Link.faults (door_state g.D.Door.left g.D.Door.returned g.D.Door.last g.D.Door.faults) g.D.Door.out c.args.config.now c.args.sessions c.seat.new.doors c.follow_stands.new.doors
          c.follow_stands.ensures.follows c.args.mirrors.now c.clear.new.mirrors c.args.doors.now c.clear.new.doors c.clear.new.outcome c.seat.ensures.seated gives c.requires.ready;
    }
