-- That many items were reported and done.
use Rattle.std.proofs.Common.{◌≡◌, false, true}
use Rattle.source_set.specs.Asking.{HasCauseAt}
use Rattle.source_set.proofs.Asked.{SoFar}
use Rattle.source_set.proofs.seat.ask.Given as goal

abbrev pub invariant-loop-asked : goal.invariant-loop-asked
invariant-loop-asked g l = record {
  so_far :
      SoFar g.S.TagSource.reports g.D.Desk.stands g.D.Desk.went l.stamp l.number
      (record { source = l.fn.seat.source; place = record { keys = l.fn.seat.keys; desk = l.fn.desk; swept = l.fn.swept } })
      (record { source = l.seat.source; place = record { keys = l.seat.keys; desk = l.desk; swept = l.swept } }) l._asked;
  cause : HasCauseAt g.S.TagSource.faults l.fn.seat.source l.seat.source false;
  takes : g.D.Desk.takes l.desk ≡ true;
}
