use Rattle.std.proofs.Common.{refl}
use Rattle.pb_machine.proofs.Sending.{may_close}
use Rattle.session_hear.specs.Step.{Faulty}
use Rattle.session_rules.specs.ServeRules.{note, refuses}
use Rattle.session_rules.proofs.Desking.{spoken_talked}
use Rattle.collector_session.specs.Doing.{standing}
use Rattle.collector_session.specs.declared.end.ServeEnd.{ServeEnd}
use Rattle.collector_session.proofs.Coming.{faulty, step_did}
use Rattle.collector_session.proofs.end.ServeEndEnd.refuse.Goals as goal

pub refuse-requires-clause-may : goal.refuse-requires-clause-may
refuse-requires-clause-may g c = may_close c.args.self.now.standing.machine.role c.args.self.now.standing.machine.state c.requires.ready.live

pub returns-clause-did : goal.returns-clause-did
returns-clause-did g c =
    let next : ServeEnd = record c.args.self.now { standing = c.refuse.new.standing; out = c.refuse.new.out } in
    step_did g.D.Desk.stands g.D.Desk.went c.refuse.result c.args.self.now next c.args._beside.now c.args._beside.now (Faulty c.args.fault)
    (refuses (standing c.args.self.now) c.args.fault) (faulty c.args.self.now c.args.fault c.requires.live) refl c.refuse.ensures.sent c.refuse.ensures.received c.refuse.ensures.taken c.refuse.ensures.own
    (spoken_talked g.D.Desk.stands g.D.Desk.went g.met.D.Desk.stays g.met.D.Desk.follows g.met.D.Desk.carries c.args._beside.now c.args.self.now.out next.out (note (standing c.args.self.now)) (refuses (standing c.args.self.now) c.args.fault)
    (standing next) (note (standing next)) c.refuse.result c.refuse.ensures.spoken)
