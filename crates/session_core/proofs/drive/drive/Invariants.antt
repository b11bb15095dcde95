-- What was done so far, by rounds after which the session is not over.
use Rattle.std.proofs.Common.{◌≡◌, None}
use Rattle.session_core.specs.Driving.{Drives}
use Rattle.session_core.proofs.drive.drive.Given as goal

abbrev pub invariant-loop-turn : goal.invariant-loop-turn
invariant-loop-turn g l = record {
  drives : Drives g.C.SessionCore.ran l.fn.core l.fn.beside l.core l.beside (g.L.Link.taken l.fn.link) (g.L.Link.taken l.link) (g.L.Link.given l.fn.link) (g.L.Link.given l.link);
  live : g.C.SessionCore.over l.core ≡ None;
  calm : g.L.Link.faults l.link ≡ g.L.Link.faults l.fn.link;
}

abbrev pub decreases-loop-turn : goal.decreases-loop-turn
decreases-loop-turn g l = g.C.SessionCore.weight l.core
