use Rattle.std.proofs.Common.{arith}
use Rattle.collector_core.proofs.Fitting.{fitting_ends, fitting_stops}
use Rattle.collector_core.proofs.answer.fitting.Goals as goal

pub returns-then-size-most : goal.returns-then-size-most
returns-then-size-most c =
    let so_far = c.loop-event.invariant in
    record {
      count = λ point. fitting_stops c.args.request.now point c.args.events.now c.args.most c.loop-event.count c.loop-event.size c.loop-event.event-index so_far.size so_far.count so_far.fits
          c.size-size.result c.event-item.result c.loop-event-test.true c.event-item.is c.size-size.ensures.size c.if-size-most.true;
    }

pub returns : goal.returns
returns c =
    let so_far = c.loop-event.invariant in
    record {
      count = λ point. fitting_ends c.args.request.now point c.args.events.now c.args.most c.loop-event.count c.loop-event.size c.loop-event.event-index so_far.size so_far.count so_far.fits
          (omega (arith, c.loop-event-test.false, c.loop-event.auto.event-index-end));
    }
