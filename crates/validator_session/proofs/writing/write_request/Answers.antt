use Rattle.std.proofs.Common.{[], ◌∷◌, ◌++◌, ◌∙◌, sym, ap, subst}
use Rattle.std.specs.Prelude.{List, IsTrue}
use Rattle.pb_batch.specs.declared.batch.Message.{Message}
use Rattle.pb_batch.specs.Written.{IsBatch}
use Rattle.pb_machine.specs.Table.{Position, may_send}
use Rattle.session_rules.specs.Following.{Stand}
use Rattle.session_rules.specs.Messages.{server_batch}
use Rattle.validator_session.specs.Standing.{stand_of}
use Rattle.validator_session.proofs.Ruling.{request_so}
use Rattle.validator_session.proofs.Sizes.{request_batch}
use Rattle.validator_session.proofs.writing.write_request.Goals as goal

pub write_draft-requires-clause-may : goal.write_draft-requires-clause-may
write_draft-requires-clause-may c = subst (λ (p : Position). IsTrue (may_send p c.args.kind)) (sym (ap (λ (s : Stand). s.machine) c.count_request.ensures.asked)) c.requires.may

pub write_draft-requires-clause-batch : goal.write_draft-requires-clause-batch
write_draft-requires-clause-batch c =
    subst (λ (answers : List Message). IsBatch (server_batch c.args.kind answers)) (sym (c.in_ok-push.ensures.appended ∙ ap (λ (m : Message). c.args.draft.answers ++ m ∷ []) c.in_ok-ask.ensures.message))
    (request_batch c.args.config.now (stand_of c.args.standing.now c.args.mirror.now) c.args.kind c.args.draft.answers c.requires.fits)

pub returns-clause-goes : goal.returns-clause-goes
returns-clause-goes c =
    request_so c.args.config.now c.args.standing.now c.count_request.new.standing c.write_draft.new.standing c.args.mirror.now c.args.out.now c.write_draft.new.out c.args.kind c.args.draft.answers c.push.new.self c.args.draft.errors c.write_draft.result
    c.count_request.ensures.asked (c.in_ok-push.ensures.appended ∙ ap (λ (m : Message). c.args.draft.answers ++ m ∷ []) c.in_ok-ask.ensures.message) (c.write_draft.ensures.goes c.args.mirror.now)
