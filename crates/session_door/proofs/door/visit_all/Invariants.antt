-- The sessions so far, one for each turn.
use Rattle.std.proofs.Common.{◌≡◌, false, length}
use Rattle.session_door.specs.Visits.{door_state}
use Rattle.session_door.proofs.Visiting.{SoFar}
use Rattle.session_door.proofs.door.visit_all.Given as goal

abbrev pub invariant-loop-done : goal.invariant-loop-done
invariant-loop-done g l = record {
  far : SoFar (g.S.Session.held l.session) g.D.L.Link.faults l.fn.beside (door_state g.D.Door.left g.D.Door.returned g.D.Door.last g.D.Door.faults l.fn.door)
      l.beside (door_state g.D.Door.left g.D.Door.returned g.D.Door.last g.D.Door.faults l.door) l.ends.items;
  count : length l.ends.items ≡ l.done;
  home : g.D.Door.out l.door ≡ false;
}
