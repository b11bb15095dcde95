use Rattle.std.proofs.Common.{ℕ, List, arith}
use Rattle.std.proofs.lemmas.Result.{err_from_is_err_and}
use Rattle.coswid_res.specs.declared.verification.verdict.Verdict.{Verdict}
use Rattle.swid_cli.specs.Tagging.{more_follows}
use Rattle.swid_cli.proofs.TagReading.{ended_so, more_reads, stopped_behind, stopped_first, stopped_so, whole_reads}
use Rattle.swid_cli.proofs.TagTelling.{refused_tells, whole_tells}
use Rattle.swid_cli.proofs.tag.answer_to_tag.Goals as goal

pub returns-then-used-octets-clause-told : goal.returns-then-used-octets-clause-told
returns-then-used-octets-clause-told g c =
    refused_tells _ _ _ _ _ (rw c.in_ok-refusal.ensures.line at c.refused.ensures.refused) (more_follows c.args.octets.now c.args.tag.now c.args.used c.requires.within c.requires.begins c.if-used-octets.true)

pub returns-clause-told : goal.returns-clause-told
returns-clause-told g c =
    whole_tells _ _ _ _ c.args.tag.now c.args.used c.in_ok-verdicts.verdicts _ c.requires.begins (omega (arith, c.if-used-octets.false)) c.in_ok-verdicts.ensures.verdicts (rw c.as_slice.ensures.items at c.in_ok-checked.ensures.text) (rw c.as_slice.ensures.items at c.in_ok-checked.ensures.ending)

pub returns-then-used-octets-clause-reads : goal.returns-then-used-octets-clause-reads
returns-then-used-octets-clause-reads g c = λ looked. more_reads _ _ _ c.args.tag.now c.args.used c.requires.begins c.if-used-octets.true

pub returns-in_err-verdicts-clause-reads : goal.returns-in_err-verdicts-clause-reads
returns-in_err-verdicts-clause-reads g c = λ looked.
    let p = err_from_is_err_and c.from_residual-in_err-verdicts.result c.from_residual-in_err-verdicts.ensures.1 in
    stopped_so _ _ _ (List (List ℕ × Verdict)) c.from_residual-in_err-verdicts.result p.0 c.in_err-verdicts.field-0.0 p.1 p.2
    (whole_reads _ _ _ c.args.tag.now c.args.used _ c.requires.begins (omega (arith, c.if-used-octets.false)) (c.in_err-verdicts.ensures.reads looked))

pub returns-in_err-checked-clause-reads : goal.returns-in_err-checked-clause-reads
returns-in_err-checked-clause-reads g c = λ looked.
    let p = err_from_is_err_and c.from_residual-in_err-checked.result c.from_residual-in_err-checked.ensures.1 in
    stopped_behind _ _ _ c.in_ok-verdicts.verdicts c.from_residual-in_err-checked.result p.0 p.1
    (whole_reads _ _ _ c.args.tag.now c.args.used _ c.requires.begins (omega (arith, c.if-used-octets.false)) (c.in_ok-verdicts.ensures.reads looked))

pub returns-clause-reads : goal.returns-clause-reads
returns-clause-reads g c = λ looked.
    ended_so _ _ _ c.in_ok-verdicts.verdicts _
    (whole_reads _ _ _ c.args.tag.now c.args.used _ c.requires.begins (omega (arith, c.if-used-octets.false)) (c.in_ok-verdicts.ensures.reads looked))

pub returns-in_err-refusal-clause-reads : goal.returns-in_err-refusal-clause-reads
returns-in_err-refusal-clause-reads g c = λ looked.
    let p = err_from_is_err_and c.from_residual.result c.from_residual.ensures.1 in
    stopped_first _ _ c.from_residual.result p.0 p.1
