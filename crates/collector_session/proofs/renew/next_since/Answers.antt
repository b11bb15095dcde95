use Rattle.collector_session.proofs.Nexting.{finds_lost, has_next, lost_next, unmoved}
use Rattle.collector_session.proofs.renew.next_since.Goals as goal

pub returns-then-not-moved-clause-found : goal.returns-then-not-moved-clause-found
returns-then-not-moved-clause-found g c =
    unmoved g.D.Desk.stands g.D.Desk.went g.met.D.Desk.stays g.met.D.Desk.follows g.met.D.Desk.carries c.args.held.now.request c.args.place c.args.desk.now c.moved-moved.new.self c.moved-moved.result c.moved-moved.ensures.reads
    c.if-not-moved.true

pub returns-in_err-request-clause-found : goal.returns-in_err-request-clause-found
returns-in_err-request-clause-found g c =
    finds_lost g.D.Desk.stands g.D.Desk.went c.args.desk.now c.point-now.new.self c.args.held.now.request c.args.place c.from_residual.result c.from_residual.ensures.0
    (lost_next g.D.Desk.stands g.D.Desk.went g.met.D.Desk.stays g.met.D.Desk.follows g.met.D.Desk.carries c.args.held.now.request c.args.place c.args.desk.now c.moved-moved.new.self c.moved-moved.result c.moved-moved.ensures.reads
    c.point-now.new.self c.point-now.result c.if-not-moved.false c.point-now.ensures.reads)

pub returns-clause-found : goal.returns-clause-found
returns-clause-found g c =
    has_next g.D.Desk.stands g.D.Desk.went g.met.D.Desk.stays g.met.D.Desk.follows g.met.D.Desk.carries c.args.held.now.request c.args.place c.args.desk.now c.moved-moved.new.self c.moved-moved.result c.moved-moved.ensures.reads
    c.point-now.new.self c.point-now.result c.if-not-moved.false c.point-now.ensures.reads c.in_ok-request.request c.in_ok-request.ensures.request
