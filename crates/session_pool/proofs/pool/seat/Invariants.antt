-- The pass is as it was, and the stands at the first places have one that was split from it.
use Rattle.std.proofs.Common.{◌≡◌, ℕ, Some, false}
use Rattle.book_lock.specs.Passes.{split_from}
use Rattle.session_pool.specs.declared.stand.Stand.{Stand}
use Rattle.session_pool.proofs.Places.{UpTo}
use Rattle.session_pool.proofs.pool.seat.Given as goal

abbrev pub invariant-loop-place : goal.invariant-loop-place
invariant-loop-place g l = record {
  kept : l.pass ≡ l.fn.pass;
  doors : UpTo (λ (place : ℕ) (one other : Stand g.row.D.Denot). other ≡ record one { pass = Some (split_from l.fn.pass false) }) l.place l.fn.doors l.doors;
}
