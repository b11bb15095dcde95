-- An SRETRY with a request; then the collector's next batch is awaited.
use Rattle.std.proofs.Common.{List, ℕ, true, ◌++◌, ◌∙◌, ap, refl, subst₂, append-nil}
use Rattle.pb_batch.specs.declared.kind.BatchKind.TheVariants as kinds
use Rattle.pb_machine.specs.declared.machine.State.TheVariants as state
use Rattle.pb_batch.specs.declared.batch.Message.{Message}
use Rattle.session_rules.specs.Following.{Stand}
use Rattle.session_rules.specs.FollowRules.{writes_request}
use Rattle.validator_session.specs.declared.take.Draft.{Draft}
use Rattle.validator_session.specs.Drafting.{Goes}
use Rattle.validator_session.specs.Standing.{stand_of}
use Rattle.validator_session.proofs.Ruling.{may_decided, sent_ready}
use Rattle.validator_session.proofs.Stepping.{on_ok}
use Rattle.validator_session.proofs.rules.retry.Goals as goal

pub write_request-requires-clause-may : goal.write_request-requires-clause-may
write_request-requires-clause-may c = may_decided c.args.standing.now.machine kinds.Sretry c.requires.ready.role c.requires.decided refl

pub returns-clause-goes : goal.returns-clause-goes
returns-clause-goes c =
    let s : Stand = record (stand_of c.args.standing.now c.args.mirror.now) { retried = true } in
    let made = c.new-draft.ensures.made in
    subst₂ (λ (answers : List Message) (codes : List ℕ). Goes c.args.standing.now c.args.mirror.now c.args.out.now (writes_request c.args.config.now (record s { notes = record s.notes { errors = codes } }) kinds.Sretry answers) c.write_request.new.standing c.args.mirror.now c.write_request.new.out c.write_request.result)
    (ap (λ (d : Draft). d.answers) made) (ap (λ (d : Draft). s.notes.errors ++ d.errors) made ∙ append-nil s.notes.errors) c.write_request.ensures.goes

pub returns-clause-ready : goal.returns-clause-ready
returns-clause-ready c =
    on_ok c.write_request.result (λ machine. sent_ready c.args.config.now.rounds c.args.standing.now c.write_request.new.standing state.Decided kinds.Sretry c.requires.ready c.requires.decided (λ is. absurd cc) machine c.write_request.ensures.rounds)
    c.write_request.ensures.machine
