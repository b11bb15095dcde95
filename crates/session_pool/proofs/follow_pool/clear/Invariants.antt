-- The stands at the first places were cleared.
use Rattle.validator_core.specs.Held.{Held}
use Rattle.session_door.specs.declared.work.Work.{Work}
use Rattle.session_pool.specs.Rooms.{GivesMirror}
use Rattle.session_pool.specs.declared.stand.Stand.{Stand}
use Rattle.session_pool.proofs.Clearing.{Cleared}
use Rattle.session_pool.proofs.Following.{AnyAt}
use Rattle.session_pool.proofs.Places.{UpTo}
use Rattle.session_pool.proofs.follow_pool.clear.Given as goal

abbrev pub invariant-loop-place : goal.invariant-loop-place
invariant-loop-place g l = record {
  mirrors : UpTo AnyAt l.place l.fn.mirrors l.mirrors;
  cleared : Cleared (λ (one : Stand g.row.D.Denot) (mirror : Held) (other : Stand g.row.D.Denot) (work : Work). GivesMirror one mirror other work) l.place l.fn.doors l.mirrors l.doors l.outcome;
}
