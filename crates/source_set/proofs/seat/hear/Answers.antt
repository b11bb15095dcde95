use Rattle.source_set.proofs.Hearing.{hears_none, hears_refused}
use Rattle.source_set.proofs.seat.hear.Goals as goal

pub returns-in-Some-clause-heard : goal.returns-in-Some-clause-heard
returns-in-Some-clause-heard g c =
    hears_none g.D.Desk.stands g.D.Desk.went c.args.stamp.now c.args.number c.args.told
    (record { source = c.args.seat.now.source; place = record { keys = c.args.seat.now.keys; desk = c.args.desk.now; swept = c.args.swept.now } }) c.in-Some.answer c.in-Some.ensures.answer

pub returns-in-Err-clause-heard : goal.returns-in-Err-clause-heard
returns-in-Err-clause-heard g c =
    hears_refused g.D.Desk.stands g.D.Desk.went c.args.stamp.now c.args.number c.args.told
    (record { source = c.args.seat.now.source; place = record { keys = c.args.seat.now.keys; desk = c.args.desk.now; swept = c.args.swept.now } })
    (record { source = c.do_item.new.seat.source; place = record { keys = c.do_item.new.seat.keys; desk = c.do_item.new.desk; swept = c.do_item.new.swept } })
    c.in-Err.stop c.in-None.ensures.answer c.in-Err.ensures.tried
