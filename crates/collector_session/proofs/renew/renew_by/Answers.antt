use Rattle.std.proofs.Common.{◌≡◌, ap, inl, refl, subst, sym}
use Rattle.std.specs.Prelude.{IfSome, Ok, OnOk, Option, ℕ}
use Rattle.swima_request.specs.declared.request.Request.{Request}
use Rattle.session_rules.specs.Answering.{renews_by}
use Rattle.session_rules.specs.Clauses.{Drafted}
use Rattle.session_rules.proofs.Desking.{drafted_done}
use Rattle.collector_session.specs.Renewing.{GoesOn}
use Rattle.collector_session.specs.Standing.{draft_of}
use Rattle.collector_session.proofs.Sizes.{none_grown}
use Rattle.collector_session.proofs.renew.renew_by.Goals as goal

pub returns-in-None-clause-drafted : goal.returns-in-None-clause-drafted
returns-in-None-clause-drafted g c =
    drafted_done g.D.Desk.stands g.D.Desk.went g.met.D.Desk.stays g.met.D.Desk.follows g.met.D.Desk.carries {T = Unit {0}} {E = Unit {0}} c.args.desk.now (renews_by c.args.config.now (draft_of c.args.draft.now) c.args.next) (draft_of c.args.draft.now) (Ok tt)
    (ap (λ (next : Option Request). renews_by c.args.config.now (draft_of c.args.draft.now) next) c.in-None.is)

pub returns-in-None-clause-goes : goal.returns-in-None-clause-goes
returns-in-None-clause-goes g c = λ id same. inl refl

pub returns-in-None-clause-grown : goal.returns-in-None-clause-grown
returns-in-None-clause-grown g c = none_grown c.args.draft.now c.args.draft.now refl refl refl

pub returns-in-Some-clause-drafted : goal.returns-in-Some-clause-drafted
returns-in-Some-clause-drafted g c =
    subst (λ (next : Option Request). Drafted g.D.Desk.stands g.D.Desk.went c.args.desk.now c.renew_so.new.desk (renews_by c.args.config.now (draft_of c.args.draft.now) next) (draft_of c.renew_so.new.draft) c.renew_so.result) (sym c.in-Some.is)
    c.renew_so.ensures.drafted

pub returns-in-Some-clause-goes : goal.returns-in-Some-clause-goes
returns-in-Some-clause-goes g c = λ id same.
    let is : c.in-Some.request.id ≡ id = subst (λ (next : Option Request). IfSome next (λ request. request.id ≡ id)) c.in-Some.is same in
    subst (λ (n : ℕ). OnOk c.renew_so.result (GoesOn n c.args.draft.now.subs c.renew_so.new.draft.subs)) is c.renew_so.ensures.goes
