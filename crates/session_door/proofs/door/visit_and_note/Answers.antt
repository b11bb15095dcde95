use Rattle.std.proofs.Common.{◌∙◌, ◌++◌, ◌∷◌, [], List, ap}
use Rattle.std.proofs.lemmas.Result.{err_from_is_err_and}
use Rattle.session_door.specs.Visits.{Noted, door_state}
use Rattle.session_door.proofs.Visiting.{none_came}
use Rattle.session_door.proofs.door.visit_and_note.Goals as goal

pub returns-in_err-noted-clause-notes : goal.returns-in_err-noted-clause-notes
returns-in_err-noted-clause-notes g c =
    let p = err_from_is_err_and c.from_residual.result c.from_residual.ensures.1 in
    rw (p.1, p.2) (none_came (g.S.Session.held c.args.session.now) g.D.L.Link.faults c.args.beside.now c.visit_next.new.beside (door_state g.D.Door.left g.D.Door.returned g.D.Door.last g.D.Door.faults c.args.door.now) (door_state g.D.Door.left g.D.Door.returned g.D.Door.last g.D.Door.faults c.visit_next.new.door)
    c.args.ends.now.items c.make_room.new.ends.items c.make_room.ensures.same c.in_err-noted.field-0.0 c.in_err-noted.ensures.visits)

pub returns-clause-notes : goal.returns-clause-notes
returns-clause-notes g c =
    (c.in_ok-noted.noted, c.in_ok-noted.ensures.visits, c.put.ensures.appended ∙ ap (λ (ends : List Noted). ends ++ c.in_ok-noted.noted ∷ []) c.make_room.ensures.same)
