use Rattle.validator_session.proofs.Ruling.{coded_noted, writes_lost, writes_so}
use Rattle.validator_session.proofs.writing.write_draft.Goals as goal

pub returns-in_err-write-clause-goes : goal.returns-in_err-write-clause-goes
returns-in_err-write-clause-goes c mirror =
    writes_lost c.args.standing.now c.write.new.machine mirror c.args.out.now c.write.new.out c.args.kind c.args.draft.answers c.args.draft.errors c.from_residual.result c.from_residual.ensures.0 c.in_err-write.ensures.unchanged

pub returns-clause-noted : goal.returns-clause-noted
returns-clause-noted c = coded_noted c.args.standing.now.notes c.extend.new.self c.requires.noted

pub returns-clause-goes : goal.returns-clause-goes
returns-clause-goes c mirror =
    writes_so c.args.standing.now c.write.new.machine mirror c.args.out.now c.write.new.out c.args.kind c.args.draft.answers c.args.draft.errors c.extend.new.self c.extend.result
    c.in_ok-write.ensures.sent c.in_ok-write.ensures.written (rw c.as_slice.ensures.items at c.extend.ensures.appended) c.extend.ensures.unchanged
