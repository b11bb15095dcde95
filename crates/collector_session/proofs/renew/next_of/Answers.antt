use Rattle.std.proofs.Common.{subst, sym}
use Rattle.std.specs.Prelude.{Option}
use Rattle.swima_model.specs.declared.report.Point.{Point}
use Rattle.session_rules.specs.Answering.{next_of}
use Rattle.collector_session.specs.Renewing.{Finds}
use Rattle.collector_session.proofs.Nexting.{none_next}
use Rattle.collector_session.proofs.renew.next_of.Goals as goal

pub returns-in-None-clause-found : goal.returns-in-None-clause-found
returns-in-None-clause-found g c = none_next g.D.Desk.stands g.D.Desk.went g.met.D.Desk.stays g.met.D.Desk.follows g.met.D.Desk.carries c.args.desk.now c.args.held.now.request c.args.held.now.place c.in-None.is

pub returns-in-Some-clause-found : goal.returns-in-Some-clause-found
returns-in-Some-clause-found g c =
    subst (λ (p : Option Point). Finds g.D.Desk.stands g.D.Desk.went c.args.desk.now c.next_since.new.desk (next_of c.args.held.now.request p) c.next_since.result) (sym c.in-Some.is) c.next_since.ensures.found
