-- The mirrors at the first places are in their stands.
use Rattle.std.proofs.Common.{ℕ}
use Rattle.session_pool.specs.declared.stand.Stand.{Stand}
use Rattle.session_pool.proofs.Following.{AnyAt, SeatedAt}
use Rattle.session_pool.proofs.Places.{UpTo}
use Rattle.session_pool.proofs.follow_pool.seat.Given as goal

abbrev pub invariant-loop-place : goal.invariant-loop-place
invariant-loop-place g l = record {
  mirrors : UpTo AnyAt l.place l.fn.mirrors l.mirrors;
  doors : UpTo (λ (place : ℕ) (one other : Stand g.row.D.Denot). SeatedAt l.fn.mirrors place one other) l.place l.fn.doors l.doors;
}
