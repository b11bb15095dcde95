use Rattle.std.proofs.Common.{◌∙◌, ◌∷◌, [], length, length-append, ap, refl, subst, sym, arith}
use Rattle.session_door.specs.Visits.{door_state}
use Rattle.session_door.specs.declared.work.Stop.TheVariants as stop
use Rattle.session_door.proofs.Visiting.{SoFar, held_all, none_yet, noted_more, noted_none}
use Rattle.session_door.proofs.door.visit_all.Goals as goal

pub loop-done-init : goal.loop-done-init
loop-done-init g c =
    let door = door_state g.D.Door.left g.D.Door.returned g.D.Door.last g.D.Door.faults c.args.door.now in record {
      far = subst (SoFar (g.S.Session.held c.args.session.now) g.D.L.Link.faults c.args.beside.now door c.args.beside.now door) (sym c.requires.none) (none_yet (g.S.Session.held c.args.session.now) g.D.L.Link.faults c.args.beside.now door);
      count = ap length c.requires.none;
      home = c.requires.home;
    }

pub loop-done-preserved : goal.loop-done-preserved
loop-done-preserved g c =
    let door = door_state g.D.Door.left g.D.Door.returned g.D.Door.last g.D.Door.faults c.args.door.now in
    let between = door_state g.D.Door.left g.D.Door.returned g.D.Door.last g.D.Door.faults c.loop-done.door in
    let later = door_state g.D.Door.left g.D.Door.returned g.D.Door.last g.D.Door.faults c.visit_and_note-visited.new.door in
    let more = c.in_default.ensures.notes in record {
      far = noted_more (g.S.Session.held c.args.session.now) g.D.L.Link.faults c.args.beside.now c.loop-done.beside c.visit_and_note-visited.new.beside door between later c.loop-done.ends.items c.visit_and_note-visited.new.ends.items
          c.loop-done.invariant.far more;
      count = ap length more.2 ∙ omega (arith, length-append c.loop-done.ends.items (more.0 ∷ []), c.loop-done.invariant.count);
      home = c.visit_and_note-visited.ensures.home;
    }

pub returns-in-Err-clause-works : goal.returns-in-Err-clause-works
returns-in-Err-clause-works g c =
    let door = door_state g.D.Door.left g.D.Door.returned g.D.Door.last g.D.Door.faults c.args.door.now in
    let between = door_state g.D.Door.left g.D.Door.returned g.D.Door.last g.D.Door.faults c.loop-done.door in
    let later = door_state g.D.Door.left g.D.Door.returned g.D.Door.last g.D.Door.faults c.visit_and_note-visited.new.door in
    noted_none (g.S.Session.held c.args.session.now) g.D.L.Link.faults c.args.sessions c.args.beside.now c.loop-done.beside c.visit_and_note-visited.new.beside door between later c.loop-done.ends.items c.visit_and_note-visited.new.ends.items
    c.loop-done.invariant.far (omega (arith, c.loop-done.invariant.count, c.loop-done-test.true)) c.in-Err.stop c.in-Err.ensures.notes

pub returns-clause-works : goal.returns-clause-works
returns-clause-works g c =
    let door = door_state g.D.Door.left g.D.Door.returned g.D.Door.last g.D.Door.faults c.args.door.now in
    let between = door_state g.D.Door.left g.D.Door.returned g.D.Door.last g.D.Door.faults c.loop-done.door in
    held_all (g.S.Session.held c.args.session.now) g.D.L.Link.faults c.args.sessions c.args.beside.now c.loop-done.beside door between c.loop-done.ends.items c.loop-done.invariant.far
    (record { ends = c.loop-done.ends.items; stop = stop.Done }) refl refl (omega (arith, c.loop-done.invariant.count, c.loop-done-test.false, c.loop-done.auto.done-end)) c.requires.some
