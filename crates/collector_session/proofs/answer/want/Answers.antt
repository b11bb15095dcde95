use Rattle.std.proofs.Common.{◌∙◌, ap, subst, sym}
use Rattle.std.specs.Prelude.{Err}
use Rattle.swima_subs.specs.declared.sub_answer.SubAnswer.{SubAnswer}
use Rattle.swima_subs.specs.declared.sub_answer.SubAnswer.TheVariants.{Taken, Reused, Denied}
use Rattle.swima_subs.specs.Subscriptions.{applied}
use Rattle.session_rules.specs.Answering.{Drafting, earlier_left, wants}
use Rattle.session_rules.specs.Clauses.{Drafted}
use Rattle.session_rules.specs.Serving.{Draft as Stand}
use Rattle.session_rules.proofs.Desking.{drafted_done}
use Rattle.collector_session.specs.Answers.{AppliesTo}
use Rattle.collector_session.specs.Standing.{draft_of}
use Rattle.collector_session.proofs.Answering.{ends_as, wants_so}
use Rattle.collector_session.proofs.Results.{on_ok}
use Rattle.collector_session.proofs.Sizes.{grown_after}
use Rattle.collector_session.proofs.answer.want.Goals as goal

pub returns-in-Taken-clause-drafted : goal.returns-in-Taken-clause-drafted
returns-in-Taken-clause-drafted g c =
    let put = subst (λ (a : SubAnswer). AppliesTo c.args.draft.now c.args.request.now a c.apply-applied.new.self) c.in-Taken.is c.apply-applied.ensures.applied in
    subst (λ (talk : Drafting). Drafted g.D.Desk.stands g.D.Desk.went c.args.desk.now c.ask.new.desk talk (draft_of c.ask.new.draft) c.ask.result)
    (sym (wants_so c.args.draft.now c.apply-applied.new.self c.args.request.now Taken put.0 put.1)) c.ask.ensures.drafted

pub returns-in-Taken-clause-grown : goal.returns-in-Taken-clause-grown
returns-in-Taken-clause-grown g c =
    let put = subst (λ (a : SubAnswer). AppliesTo c.args.draft.now c.args.request.now a c.apply-applied.new.self) c.in-Taken.is c.apply-applied.ensures.applied in
    on_ok c.ask.result
    (λ grown. grown_after c.args.draft.now c.apply-applied.new.self c.ask.new.draft (applied c.args.draft.now.subs c.args.request.now).1 (earlier_left c.args.draft.now.earlier c.args.request.now.clear) put.1 grown) c.ask.ensures.grown

pub returns-in-Reused-clause-drafted : goal.returns-in-Reused-clause-drafted
returns-in-Reused-clause-drafted g c =
    let put = subst (λ (a : SubAnswer). AppliesTo c.args.draft.now c.args.request.now a c.apply-applied.new.self) c.in-Reused.is c.apply-applied.ensures.applied in
    drafted_done g.D.Desk.stands g.D.Desk.went g.met.D.Desk.stays g.met.D.Desk.follows g.met.D.Desk.carries c.args.desk.now (wants (draft_of c.args.draft.now) c.args.request.now) (draft_of c.put_error.new.self) c.put_error.result
    (on_ok c.put_error.result
    (λ so. wants_so c.args.draft.now c.apply-applied.new.self c.args.request.now (Reused c.in-Reused.id) put.0 put.1 ∙ ap (λ (d : Stand). (ends_as d)) (sym so)) c.put_error.ensures.put)

pub returns-in-Reused-clause-grown : goal.returns-in-Reused-clause-grown
returns-in-Reused-clause-grown g c =
    let put = subst (λ (a : SubAnswer). AppliesTo c.args.draft.now c.args.request.now a c.apply-applied.new.self) c.in-Reused.is c.apply-applied.ensures.applied in
    on_ok c.put_error.result
    (λ grown. grown_after c.args.draft.now c.apply-applied.new.self c.put_error.new.self (applied c.args.draft.now.subs c.args.request.now).1 (earlier_left c.args.draft.now.earlier c.args.request.now.clear) put.1 grown) c.put_error.ensures.grown

pub returns-in-Denied-clause-drafted : goal.returns-in-Denied-clause-drafted
returns-in-Denied-clause-drafted g c =
    let put = subst (λ (a : SubAnswer). AppliesTo c.args.draft.now c.args.request.now a c.apply-applied.new.self) c.in-Denied.is c.apply-applied.ensures.applied in
    drafted_done g.D.Desk.stands g.D.Desk.went g.met.D.Desk.stays g.met.D.Desk.follows g.met.D.Desk.carries c.args.desk.now (wants (draft_of c.args.draft.now) c.args.request.now) (draft_of c.put_error-in-Denied.new.self) c.put_error-in-Denied.result
    (on_ok c.put_error-in-Denied.result
    (λ so. wants_so c.args.draft.now c.apply-applied.new.self c.args.request.now (Denied c.in-Denied.held) put.0 put.1 ∙ ap (λ (d : Stand). (ends_as d)) (sym so)) c.put_error-in-Denied.ensures.put)

pub returns-in-Denied-clause-grown : goal.returns-in-Denied-clause-grown
returns-in-Denied-clause-grown g c =
    let put = subst (λ (a : SubAnswer). AppliesTo c.args.draft.now c.args.request.now a c.apply-applied.new.self) c.in-Denied.is c.apply-applied.ensures.applied in
    on_ok c.put_error-in-Denied.result
    (λ grown. grown_after c.args.draft.now c.apply-applied.new.self c.put_error-in-Denied.new.self (applied c.args.draft.now.subs c.args.request.now).1 (earlier_left c.args.draft.now.earlier c.args.request.now.clear) put.1 grown)
    c.put_error-in-Denied.ensures.grown

pub returns-in-Memory-clause-drafted : goal.returns-in-Memory-clause-drafted
returns-in-Memory-clause-drafted g c =
    drafted_done g.D.Desk.stands g.D.Desk.went g.met.D.Desk.stays g.met.D.Desk.follows g.met.D.Desk.carries {T = Unit {0}} {E = Unit {0}} c.args.desk.now (wants (draft_of c.args.draft.now) c.args.request.now) (draft_of c.args.draft.now) (Err tt) tt
