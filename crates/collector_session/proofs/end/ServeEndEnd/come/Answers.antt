use Rattle.std.proofs.Common.{refl}
use Rattle.session_hear.specs.Step.{Came}
use Rattle.session_rules.specs.ServeRules.{hears}
use Rattle.collector_session.specs.Doing.{standing}
use Rattle.collector_session.proofs.Coming.{came, not_over, step_did}
use Rattle.collector_session.proofs.Results.{on_ok}
use Rattle.collector_session.proofs.end.ServeEndEnd.come.Goals as goal

pub returns-clause-did : goal.returns-clause-did
returns-clause-did g c =
    step_did g.D.Desk.stands g.D.Desk.went c.hear.result c.args.self.now (record c.args.self.now { standing = c.hear.new.standing; out = c.hear.new.out }) c.args.beside.now c.hear.new.desk (Came c.args.batch.now)
    (hears c.args.self.now.config (standing c.args.self.now) c.args.batch.now) (came c.args.self.now c.args.batch.now c.requires.live) refl c.hear.ensures.sent c.hear.ensures.received c.hear.ensures.taken c.hear.ensures.own c.hear.ensures.talked

pub returns-clause-ready : goal.returns-clause-ready
returns-clause-ready g c =
    on_ok c.hear.result (λ live over. record { role = c.hear.ensures.client; live = live (not_over c.hear.new.standing.over over); max = c.requires.ready.max }) c.hear.ensures.live
