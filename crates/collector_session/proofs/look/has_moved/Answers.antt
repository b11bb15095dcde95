use Rattle.std.proofs.Common.{subst, sym}
use Rattle.std.specs.Prelude.{Option}
use Rattle.swima_model.specs.declared.report.Point.{Point}
use Rattle.session_rules.specs.ServeRules.{looks_from}
use Rattle.collector_session.proofs.Each.{Held}
use Rattle.collector_session.proofs.Looking.{unfulfilled}
use Rattle.collector_session.proofs.Nexting.{looked}
use Rattle.collector_session.proofs.look.has_moved.Goals as goal

pub returns-in-None : goal.returns-in-None
returns-in-None g c = record { looked = unfulfilled g.D.Desk.stands g.D.Desk.went g.met.D.Desk.stays g.met.D.Desk.follows g.met.D.Desk.carries c.args.desk.now c.args.held.now c.in-None.is }

pub returns-in-Some : goal.returns-in-Some
returns-in-Some g c = record {
  looked = subst (λ (p : Option Point). Held g.D.Desk.stands g.D.Desk.went c.args.desk.now c.moved.new.self (looks_from c.args.held.now.request p) c.moved.result) (sym c.in-Some.is)
      (looked g.D.Desk.stands g.D.Desk.went g.met.D.Desk.stays g.met.D.Desk.follows g.met.D.Desk.carries c.args.held.now.request c.in-Some.since c.args.desk.now c.moved.new.self c.moved.result c.moved.ensures.reads);
}
