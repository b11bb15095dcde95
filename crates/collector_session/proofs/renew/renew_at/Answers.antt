use Rattle.std.proofs.Common.{◌≡◌, ◌∙◌, [], refl, subst}
use Rattle.std.specs.Prelude.{IfSome, None, Option, Some}
use Rattle.swima_request.specs.declared.request.Request.{Request}
use Rattle.swima_subs.specs.declared.waiting.Waiting.{Waiting}
use Rattle.session_rules.specs.Answering.{next_of, renews_by, renews_one}
use Rattle.session_rules.specs.Clauses.{Drafted}
use Rattle.session_rules.proofs.Desking.{drafted_then, talks_first}
use Rattle.collector_session.specs.Standing.{draft_of}
use Rattle.collector_session.proofs.Each.{Lost}
use Rattle.collector_session.proofs.Results.{not_ok, on_err}
use Rattle.collector_session.proofs.Sizes.{none_grown}
use Rattle.collector_session.proofs.renew.renew_at.Goals as goal

pub returns-in-None-clause-drafted : goal.returns-in-None-clause-drafted
returns-in-None-clause-drafted g c = λ held at. let both : None ≡ Some held = c.in-None.ensures.item ∙ at in absurd cc

pub returns-in-None-clause-goes : goal.returns-in-None-clause-goes
returns-in-None-clause-goes g c = λ held at. let both : None ≡ Some held = c.in-None.ensures.item ∙ at in absurd cc

pub returns-in-None-clause-grown : goal.returns-in-None-clause-grown
returns-in-None-clause-grown g c = none_grown c.args.draft.now c.args.draft.now refl refl refl

pub returns-in_err-next-in-Some-clause-drafted : goal.returns-in_err-next-in-Some-clause-drafted
returns-in_err-next-in-Some-clause-drafted g c = λ held at.
    let both : Some c.in-Some.held.now ≡ Some held = c.in-Some.ensures.item ∙ at in
    let same : c.in-Some.held.now ≡ held = cc in
    on_err _ c.from_residual.result c.from_residual.ensures.0
    (subst (λ (w : Waiting). Lost g.D.Desk.stands g.D.Desk.went c.args.desk.now c.next_of.new.desk (renews_one c.args.config.now (draft_of c.args.draft.now) w)) same
    (talks_first g.D.Desk.stands g.D.Desk.went c.args.desk.now c.next_of.new.desk [] [] tt (next_of c.in-Some.held.now.request c.in-Some.held.now.place) (λ (next : Option Request). renews_by c.args.config.now (draft_of c.args.draft.now) next) tt c.in_err-next-in-Some.ensures.found))

pub returns-in_err-next-in-Some-clause-goes : goal.returns-in_err-next-in-Some-clause-goes
returns-in_err-next-in-Some-clause-goes g c = λ held at. not_ok _ c.from_residual.result c.from_residual.ensures.0

pub returns-in_ok-next-in-Some-clause-drafted : goal.returns-in_ok-next-in-Some-clause-drafted
returns-in_ok-next-in-Some-clause-drafted g c = λ held at.
    let both : Some c.in-Some.held.now ≡ Some held = c.in-Some.ensures.item ∙ at in
    let same : c.in-Some.held.now ≡ held = cc in
    subst (λ (w : Waiting). Drafted g.D.Desk.stands g.D.Desk.went c.args.desk.now c.renew_by.new.desk (renews_one c.args.config.now (draft_of c.args.draft.now) w) (draft_of c.renew_by.new.draft) c.renew_by.result) same
    (drafted_then g.D.Desk.stands g.D.Desk.went g.met.D.Desk.stays g.met.D.Desk.follows g.met.D.Desk.carries c.args.desk.now c.next_of.new.desk c.renew_by.new.desk (next_of c.in-Some.held.now.request c.in-Some.held.now.place)
    (λ (next : Option Request). renews_by c.args.config.now (draft_of c.args.draft.now) next) c.in_ok-next-in-Some.next (draft_of c.renew_by.new.draft) c.renew_by.result c.in_ok-next-in-Some.ensures.found c.renew_by.ensures.drafted)

pub returns-in_ok-next-in-Some-clause-goes : goal.returns-in_ok-next-in-Some-clause-goes
returns-in_ok-next-in-Some-clause-goes g c = λ held at.
    let both : Some c.in-Some.held.now ≡ Some held = c.in-Some.ensures.item ∙ at in
    let same : c.in-Some.held.now ≡ held = cc in
    c.renew_by.ensures.goes held.request.id (subst (λ (w : Waiting). IfSome c.in_ok-next-in-Some.next (λ request. request.id ≡ w.request.id)) same c.in_ok-next-in-Some.ensures.same)
