use Rattle.collector_session.proofs.Writing.{draft_lost, draft_so}
use Rattle.collector_session.proofs.rules.write_draft.Goals as goal

pub returns-in_err-write-clause-spoken : goal.returns-in_err-write-clause-spoken
returns-in_err-write-clause-spoken c =
    draft_lost c.args.standing.now c.args.draft c.write.new.machine c.args.out.now c.write.new.out c.from_residual.result c.from_residual.ensures.0 c.in_err-write.ensures.unchanged

pub returns-clause-spoken : goal.returns-clause-spoken
returns-clause-spoken c =
    draft_so c.args.standing.now c.args.draft c.write.new.machine c.note_draft.new.notes c.args.out.now c.write.new.out c.note_draft.result c.in_ok-write.ensures.sent c.in_ok-write.ensures.written c.note_draft.ensures.noted
