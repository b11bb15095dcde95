-- An event that fits goes to those gone over.
use Rattle.validator_core.proofs.Tallying.{goes_on}
use Rattle.validator_core.proofs.misfit.first_misfit.Goals as goal

pub loop-event-preserved : goal.loop-event-preserved
loop-event-preserved c =
    let base = c.args.tally.now.records.now in
    let follows = c.in_ok-misfit.ensures.follows base _ c.loop-event.invariant.tally in
    let (none, rest, tally) =
    goes_on c.args.eid c.args.events.now c.loop-event.event-index c.event-item.result c.loop-event-test.true c.event-item.is c.if-event-eid.false
    base _ c.follow.new.self follows c.if-is_some.ensures c.loop-event.invariant.rest in
    record { rest = rest; tally = tally; few = c.in_ok-misfit.ensures.few none }
