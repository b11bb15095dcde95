use Rattle.std.proofs.Common.{Bool, false, ◌∙◌, refl, sym, subst}
use Rattle.pb_batch.specs.declared.kind.BatchKind.TheVariants as kinds
use Rattle.pb_machine.specs.declared.machine.State.TheVariants as state
use Rattle.session_rules.specs.FollowRules.{answers_data}
use Rattle.validator_session.specs.Drafting.{Goes, with_codes}
use Rattle.validator_session.specs.Standing.{stand_of}
use Rattle.validator_session.proofs.Ruling.{may_working, sent_ready}
use Rattle.validator_session.proofs.Stepping.{on_ok}
use Rattle.validator_session.proofs.answering.go_on.Goals as goal

pub write_request-requires-clause-may : goal.write_request-requires-clause-may
write_request-requires-clause-may c = may_working c.args.standing.now.machine kinds.Sdata c.requires.ready.role c.requires.working refl

pub returns-then-asks_more-clause-goes : goal.returns-then-asks_more-clause-goes
returns-then-asks_more-clause-goes c =
    let s = record (with_codes (stand_of c.args.standing.now c.args.mirror.now) c.args.draft.errors) { numbered = c.args.draft.numbered; retried = false } in
    subst (λ (more : Bool). Goes c.args.standing.now c.args.mirror.now c.args.out.now (answers_data c.args.config.now s c.args.draft.answers more) c.write_request.new.standing c.args.mirror.now c.write_request.new.out c.write_request.result)
    (sym c.if-asks_more.true ∙ c.asks_more.ensures.more) c.write_request.ensures.goes

pub returns-else-asks_more-clause-goes : goal.returns-else-asks_more-clause-goes
returns-else-asks_more-clause-goes c =
    let s = record (with_codes (stand_of c.args.standing.now c.args.mirror.now) c.args.draft.errors) { numbered = c.args.draft.numbered; retried = false } in
    subst (λ (more : Bool). Goes c.args.standing.now c.args.mirror.now c.args.out.now (answers_data c.args.config.now s c.args.draft.answers more) c.decide.new.standing c.args.mirror.now c.decide.new.out c.decide.result)
    (sym c.if-asks_more.false ∙ c.asks_more.ensures.more) (c.decide.ensures.goes c.args.mirror.now)

pub returns-then-asks_more-clause-ready : goal.returns-then-asks_more-clause-ready
returns-then-asks_more-clause-ready c =
    on_ok c.write_request.result (λ machine on. sent_ready c.args.config.now.rounds c.args.standing.now c.write_request.new.standing state.ServerWorking kinds.Sdata c.requires.ready c.requires.working (λ is. absurd cc) machine c.write_request.ensures.rounds)
    c.write_request.ensures.machine
