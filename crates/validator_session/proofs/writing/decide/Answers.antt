use Rattle.std.proofs.Common.{refl}
use Rattle.pb_batch.specs.declared.kind.BatchKind.TheVariants as kinds
use Rattle.validator_session.proofs.Ruling.{decide_lost, decide_so, decided_live, may_working}
use Rattle.validator_session.proofs.Sizes.{assessment_batch}
use Rattle.validator_session.proofs.writing.decide.Goals as goal

pub write_draft-requires-clause-may : goal.write_draft-requires-clause-may
write_draft-requires-clause-may c = may_working c.args.standing.now.machine kinds.Outcome c.requires.ready.role c.requires.working refl

pub write_draft-requires-clause-batch : goal.write_draft-requires-clause-batch
write_draft-requires-clause-batch c = rw c.in_ok-insert.ensures.inserted (assessment_batch kinds.Outcome c.args.draft.answers c.requires.fits)

pub returns-in_err-write_draft-clause-goes : goal.returns-in_err-write_draft-clause-goes
returns-in_err-write_draft-clause-goes c mirror =
    decide_lost c.args.config.now c.args.standing.now c.write_draft.new.standing mirror c.args.out.now c.write_draft.new.out c.args.draft.answers c.args.draft.errors c.from_residual-in_err-write_draft.result c.from_residual-in_err-write_draft.ensures.0
    (rw c.in_ok-insert.ensures.inserted at (c.in_err-write_draft.ensures.goes mirror))

pub close_if_last-requires-clause-role : goal.close_if_last-requires-clause-role
close_if_last-requires-clause-role c = (decided_live c.args.standing.now.machine c.write_draft.new.standing.machine c.requires.ready.role c.requires.working c.in_ok-write_draft.ensures.machine).0

pub close_if_last-requires-clause-live : goal.close_if_last-requires-clause-live
close_if_last-requires-clause-live c = (decided_live c.args.standing.now.machine c.write_draft.new.standing.machine c.requires.ready.role c.requires.working c.in_ok-write_draft.ensures.machine).1

pub returns-clause-goes : goal.returns-clause-goes
returns-clause-goes c mirror =
    decide_so c.args.config.now c.args.standing.now c.write_draft.new.standing c.close_if_last.new.standing mirror c.args.out.now c.write_draft.new.out c.close_if_last.new.out c.args.draft.answers c.args.draft.errors c.close_if_last.result
    (rw c.in_ok-insert.ensures.inserted at (c.in_ok-write_draft.ensures.goes mirror)) (rw c.one_more-standing.ensures.more at (c.close_if_last.ensures.goes mirror))
