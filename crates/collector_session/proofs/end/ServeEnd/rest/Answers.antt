use Rattle.std.proofs.Common.{refl}
use Rattle.session_hear.specs.Step.{Quiet}
use Rattle.session_rules.specs.ServeRules.{idles}
use Rattle.collector_session.specs.Doing.{standing}
use Rattle.collector_session.proofs.Coming.{quiet, step_did}
use Rattle.collector_session.proofs.Results.{on_ok}
use Rattle.collector_session.proofs.end.ServeEnd.rest.Goals as goal

pub returns-clause-did : goal.returns-clause-did
returns-clause-did g c =
    step_did g.D.Desk.stands g.D.Desk.went c.rest.result c.args.self.now (record c.args.self.now { standing = c.rest.new.standing; out = c.rest.new.out }) c.args.desk.now c.rest.new.desk (Quiet c.args.turns)
    (idles c.args.self.now.config (standing c.args.self.now) c.args.turns) (quiet c.args.self.now c.args.turns c.requires.live) refl c.rest.ensures.sent c.rest.ensures.received c.rest.ensures.taken c.rest.ensures.own c.rest.ensures.talked

pub returns-clause-ready : goal.returns-clause-ready
returns-clause-ready g c = on_ok c.rest.result (λ live none. record { role = c.rest.ensures.client; live = live none; max = c.requires.ready.max }) c.rest.ensures.live
