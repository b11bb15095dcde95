-- The stands at the first places were cleared, and there is room for the passes of the others.
use Rattle.std.proofs.Common.{◌≡◌, ◌≤◌, ◌+◌, ◌-◌, length}
use Rattle.std.specs.Prelude.{vec_capacity, vec_len}
use Rattle.book_lock.specs.Passes.{PassView}
use Rattle.session_door.specs.declared.work.Work.{Work}
use Rattle.session_pool.specs.Rooms.{GivesPass}
use Rattle.session_pool.specs.declared.stand.Stand.{Stand}
use Rattle.session_pool.proofs.Clearing.{Cleared}
use Rattle.session_pool.proofs.pool.clear.Given as goal

abbrev pub invariant-loop-place : goal.invariant-loop-place
invariant-loop-place g l = record {
  cleared : Cleared (λ (one : Stand g.row.D.Denot) (pass : PassView) (other : Stand g.row.D.Denot) (work : Work). GivesPass one pass other work) l.place l.fn.doors l.passes.items l.doors l.outcome;
  count : length l.passes.items ≡ l.place;
  spare : vec_len l.passes + (length l.fn.doors - l.place) ≤ vec_capacity l.passes;
}
