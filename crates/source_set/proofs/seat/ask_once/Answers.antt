use Rattle.source_set.proofs.Asked.{asks_once}
use Rattle.source_set.proofs.Causing.{once_cause}
use Rattle.source_set.proofs.seat.ask_once.Goals as goal

pub returns-clause-asked : goal.returns-clause-asked
returns-clause-asked g c =
    asks_once g.S.TagSource.reports g.D.Desk.stands g.D.Desk.went c.args.stamp.now g.met.D.Desk.stays g.met.D.Desk.follows g.met.D.Desk.carries
    c.args.number (record { source = c.args.seat.now.source; place = record { keys = c.args.seat.now.keys; desk = c.args.desk.now; swept = c.args.swept.now } })
    (record { source = c.hear.new.seat.source; place = record { keys = c.hear.new.seat.keys; desk = c.hear.new.desk; swept = c.hear.new.swept } })
    c.in-Some.source _ c.next.result c.hear.result c.in-Some.is c.next.ensures.reported (rw c.numbered-told.ensures.item at c.hear.ensures.heard)

pub returns-clause-cause : goal.returns-clause-cause
returns-clause-cause g c =
    once_cause g.S.TagSource.faults g.D.Desk.stands g.D.Desk.went c.args.stamp.now c.args.number c.args.seat.now.source c.in-Some.source _ c.next.result
    (record { keys = c.args.seat.now.keys; desk = c.args.desk.now; swept = c.args.swept.now })
    (record { source = c.hear.new.seat.source; place = record { keys = c.hear.new.seat.keys; desk = c.hear.new.desk; swept = c.hear.new.swept } })
    c.hear.result c.in-Some.is c.next.ensures.cause (rw c.numbered-told.ensures.item at c.hear.ensures.heard)
