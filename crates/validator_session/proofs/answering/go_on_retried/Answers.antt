-- It asks, or answers alone; then the collector's next batch is awaited.
use Rattle.std.proofs.Common.{Bool, refl, sym, subst}
use Rattle.pb_batch.specs.declared.kind.BatchKind.TheVariants as kinds
use Rattle.pb_machine.specs.declared.machine.State.TheVariants as state
use Rattle.session_rules.specs.FollowRules.{answers_retry}
use Rattle.validator_session.specs.Drafting.{Goes, with_codes}
use Rattle.validator_session.specs.Standing.{stand_of}
use Rattle.validator_session.proofs.Ruling.{may_working, sent_ready}
use Rattle.validator_session.proofs.Sizes.{answers_batch}
use Rattle.validator_session.proofs.Stepping.{on_ok}
use Rattle.validator_session.proofs.answering.go_on_retried.Goals as goal

pub write_request-requires-clause-may : goal.write_request-requires-clause-may
write_request-requires-clause-may c = may_working c.args.standing.now.machine kinds.Sdata c.requires.ready.role c.requires.working refl

pub write_draft-requires-clause-may : goal.write_draft-requires-clause-may
write_draft-requires-clause-may c = may_working c.args.standing.now.machine kinds.Sdata c.requires.ready.role c.requires.working refl

pub write_draft-requires-clause-batch : goal.write_draft-requires-clause-batch
write_draft-requires-clause-batch c = answers_batch kinds.Sdata c.args.draft.answers c.requires.fits

pub returns-then-standing-clause-goes : goal.returns-then-standing-clause-goes
returns-then-standing-clause-goes c =
    let s = record (with_codes (stand_of c.args.standing.now c.args.mirror.now) c.args.draft.errors) { numbered = c.args.draft.numbered } in
    subst (λ (retried : Bool). Goes c.args.standing.now c.args.mirror.now c.args.out.now (answers_retry c.args.config.now s c.args.draft.answers retried) c.write_request.new.standing c.args.mirror.now c.write_request.new.out c.write_request.result)
    (sym c.if-standing.true) c.write_request.ensures.goes

pub returns-else-standing-clause-goes : goal.returns-else-standing-clause-goes
returns-else-standing-clause-goes c =
    let s = record (with_codes (stand_of c.args.standing.now c.args.mirror.now) c.args.draft.errors) { numbered = c.args.draft.numbered } in
    subst (λ (retried : Bool). Goes c.args.standing.now c.args.mirror.now c.args.out.now (answers_retry c.args.config.now s c.args.draft.answers retried) c.write_draft.new.standing c.args.mirror.now c.write_draft.new.out c.write_draft.result)
    (sym c.if-standing.false) (c.write_draft.ensures.goes c.args.mirror.now)

pub returns-then-standing-clause-ready : goal.returns-then-standing-clause-ready
returns-then-standing-clause-ready c =
    on_ok c.write_request.result (λ machine. sent_ready c.args.config.now.rounds c.args.standing.now c.write_request.new.standing state.ServerWorking kinds.Sdata c.requires.ready c.requires.working (λ is. absurd cc) machine c.write_request.ensures.rounds)
    c.write_request.ensures.machine

pub returns-else-standing-clause-ready : goal.returns-else-standing-clause-ready
returns-else-standing-clause-ready c =
    on_ok c.write_draft.result (λ machine. sent_ready c.args.config.now.rounds c.args.standing.now c.write_draft.new.standing state.ServerWorking kinds.Sdata c.requires.ready c.requires.working (λ is. absurd cc) machine c.write_draft.ensures.rounds)
    c.write_draft.ensures.machine
