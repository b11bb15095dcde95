use Rattle.std.proofs.Common.{◌≡◌, ◌<◌, arith, false}
use Rattle.source_set.proofs.Asked.{asks_ended, asks_full, asks_stopped, so_far_more, so_far_none}
use Rattle.source_set.proofs.Causing.{cause_joins, cause_none}
use Rattle.source_set.proofs.seat.ask.Goals as goal

pub loop-asked-init : goal.loop-asked-init
loop-asked-init g c = record {
  so_far = so_far_none g.S.TagSource.reports g.D.Desk.stands g.D.Desk.went c.args.stamp.now g.met.D.Desk.stays g.met.D.Desk.follows g.met.D.Desk.carries c.args.number (record { source = c.args.seat.now.source; place = record { keys = c.args.seat.now.keys; desk = c.args.desk.now; swept = c.args.swept.now } });
  cause = cause_none g.S.TagSource.faults c.args.seat.now.source;
  takes = c.requires.takes;
}

pub loop-asked-preserved : goal.loop-asked-preserved
loop-asked-preserved g c = record {
  so_far =
      so_far_more g.S.TagSource.reports g.D.Desk.stands g.D.Desk.went c.args.stamp.now g.met.D.Desk.stays g.met.D.Desk.follows g.met.D.Desk.carries c.args.number (record { source = c.args.seat.now.source; place = record { keys = c.args.seat.now.keys; desk = c.args.desk.now; swept = c.args.swept.now } })
      (record { source = c.loop-asked.seat.source; place = record { keys = c.loop-asked.seat.keys; desk = c.loop-asked.desk; swept = c.loop-asked.swept } })
      (record { source = c.ask_once.new.seat.source; place = record { keys = c.ask_once.new.seat.keys; desk = c.ask_once.new.desk; swept = c.ask_once.new.swept } })
      c.loop-asked._asked c.in-Ok.more c.loop-asked.invariant.so_far c.if-not-more.false c.in-Ok.ensures.asked;
  cause = cause_joins g.S.TagSource.faults c.args.seat.now.source c.loop-asked.seat.source c.ask_once.new.seat.source false c.loop-asked.invariant.cause c.in-Ok.ensures.cause;
  takes = c.in-Ok.ensures.takes;
}

pub returns-then-not-more-clause-asked : goal.returns-then-not-more-clause-asked
returns-then-not-more-clause-asked g c =
    let less : c.loop-asked._asked < 1024 = omega (arith, c.loop-asked-test.true) in
    asks_ended g.S.TagSource.reports g.D.Desk.stands g.D.Desk.went c.args.stamp.now g.met.D.Desk.stays g.met.D.Desk.follows g.met.D.Desk.carries c.args.number (record { source = c.args.seat.now.source; place = record { keys = c.args.seat.now.keys; desk = c.args.desk.now; swept = c.args.swept.now } })
    (record { source = c.loop-asked.seat.source; place = record { keys = c.loop-asked.seat.keys; desk = c.loop-asked.desk; swept = c.loop-asked.swept } })
    (record { source = c.ask_once.new.seat.source; place = record { keys = c.ask_once.new.seat.keys; desk = c.ask_once.new.desk; swept = c.ask_once.new.swept } })
    c.loop-asked._asked c.in-Ok.more c.loop-asked.invariant.so_far c.if-not-more.true less c.in-Ok.ensures.asked

pub returns-in-Err-clause-asked : goal.returns-in-Err-clause-asked
returns-in-Err-clause-asked g c =
    let less : c.loop-asked._asked < 1024 = omega (arith, c.loop-asked-test.true) in
    asks_stopped g.S.TagSource.reports g.D.Desk.stands g.D.Desk.went c.args.stamp.now g.met.D.Desk.stays g.met.D.Desk.follows g.met.D.Desk.carries c.args.number (record { source = c.args.seat.now.source; place = record { keys = c.args.seat.now.keys; desk = c.args.desk.now; swept = c.args.swept.now } })
    (record { source = c.loop-asked.seat.source; place = record { keys = c.loop-asked.seat.keys; desk = c.loop-asked.desk; swept = c.loop-asked.swept } })
    (record { source = c.ask_once.new.seat.source; place = record { keys = c.ask_once.new.seat.keys; desk = c.ask_once.new.desk; swept = c.ask_once.new.swept } })
    c.loop-asked._asked c.in-Err.stop c.loop-asked.invariant.so_far less c.in-Err.ensures.asked

pub returns-clause-asked : goal.returns-clause-asked
returns-clause-asked g c =
    let all : c.loop-asked._asked ≡ 1024 = omega (arith, c.loop-asked-test.false, c.loop-asked.auto._asked-end) in
    asks_full g.S.TagSource.reports g.D.Desk.stands g.D.Desk.went c.args.stamp.now g.met.D.Desk.stays g.met.D.Desk.follows g.met.D.Desk.carries c.args.number (record { source = c.args.seat.now.source; place = record { keys = c.args.seat.now.keys; desk = c.args.desk.now; swept = c.args.swept.now } })
    (record { source = c.loop-asked.seat.source; place = record { keys = c.loop-asked.seat.keys; desk = c.loop-asked.desk; swept = c.loop-asked.swept } })
    c.loop-asked._asked c.loop-asked.invariant.so_far all

pub returns-then-not-more-clause-cause : goal.returns-then-not-more-clause-cause
returns-then-not-more-clause-cause g c =
    cause_joins g.S.TagSource.faults c.args.seat.now.source c.loop-asked.seat.source c.ask_once.new.seat.source false c.loop-asked.invariant.cause c.in-Ok.ensures.cause

pub returns-in-Err-clause-cause : goal.returns-in-Err-clause-cause
returns-in-Err-clause-cause g c =
    cause_joins g.S.TagSource.faults c.args.seat.now.source c.loop-asked.seat.source c.ask_once.new.seat.source _ c.loop-asked.invariant.cause c.in-Err.ensures.cause

pub returns-clause-cause : goal.returns-clause-cause
returns-clause-cause g c = c.loop-asked.invariant.cause
