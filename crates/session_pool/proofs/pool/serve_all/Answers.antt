-- What came of the workers is answered, with the sweeps.
use Rattle.std.proofs.Common.{inl, refl, Ok}
use Rattle.session_pool.proofs.Clearing.{came_of, one_lacked}
use Rattle.session_pool.proofs.Pooling.{lacked}
use Rattle.session_pool.proofs.pool.serve_all.Goals as goal

pub returns-in_err-ends-clause-served : goal.returns-in_err-ends-clause-served
returns-in_err-ends-clause-served g c =
    let tally = c.serve_with_room-tally.result in
    let leaves = c.serve_with_room-tally.ensures.leaves in
    inl (leaves.answered c.from_residual-in_err-ends.result (lacked leaves.works tally.swept tally.stopped c.from_residual-in_err-ends.result c.from_residual-in_err-ends.ensures.0
    (one_lacked leaves.works c.serve_with_room-tally.new.outcome leaves.came c.in_err-ends.ensures.memory)))

pub returns-clause-served : goal.returns-clause-served
returns-clause-served g c =
    let tally = c.serve_with_room-tally.result in
    let leaves = c.serve_with_room-tally.ensures.leaves in
    let whole = c.in_ok-ends.ensures.whole in
    inl (leaves.answered (Ok (record { ends = c.in_ok-ends.ends; door_failed = c.in_ok-ends.door_failed; swept = tally.swept; stopped = tally.stopped }))
    (came_of leaves.works c.serve_with_room-tally.new.outcome c.in_ok-ends.ends c.in_ok-ends.door_failed leaves.came whole.0 whole.1 whole.2, refl, refl))
