use Rattle.std.proofs.Common.{arith}
use Rattle.std.proofs.lemmas.Result.{err_from_is_err_and}
use Rattle.swid_cli.specs.Tagging.{long_input}
use Rattle.swid_cli.proofs.TagReading.{long_reads, refused_reads, stopped_first}
use Rattle.swid_cli.proofs.TagTelling.{no_tag_tells, refused_tells}
use Rattle.swid_cli.proofs.tag.answer_to.Goals as goal

pub returns-then-octets-gt-MOST_TAG_OCTETS-clause-told : goal.returns-then-octets-gt-MOST_TAG_OCTETS-clause-told
returns-then-octets-gt-MOST_TAG_OCTETS-clause-told g c = refused_tells _ _ _ _ _ c.in_ok-beyond_limit.ensures.limit (long_input c.args.octets.now c.if-octets-gt-MOST_TAG_OCTETS.true)

pub returns-then-octets-gt-MOST_TAG_OCTETS-clause-reads : goal.returns-then-octets-gt-MOST_TAG_OCTETS-clause-reads
returns-then-octets-gt-MOST_TAG_OCTETS-clause-reads g c = λ looked. long_reads _ _ _ c.if-octets-gt-MOST_TAG_OCTETS.true

pub returns-in_ok-answer_to_no_tag-in-Err-clause-told : goal.returns-in_ok-answer_to_no_tag-in-Err-clause-told
returns-in_ok-answer_to_no_tag-in-Err-clause-told g c =
    no_tag_tells c.args.scope _ c.args.octets.now c.in-Err.why _ (omega (arith, c.if-octets-gt-MOST_TAG_OCTETS.false)) c.in-Err.ensures.refused c.in_ok-answer_to_no_tag-in-Err.ensures.told

pub returns-in_ok-answer_to_no_tag-in-Err-clause-reads : goal.returns-in_ok-answer_to_no_tag-in-Err-clause-reads
returns-in_ok-answer_to_no_tag-in-Err-clause-reads g c = λ looked. refused_reads _ _ _ c.in-Err.why _ c.in-Err.ensures.refused c.in_ok-answer_to_no_tag-in-Err.ensures.told

pub returns-in_err-answer_to_no_tag-in-Err-clause-reads : goal.returns-in_err-answer_to_no_tag-in-Err-clause-reads
returns-in_err-answer_to_no_tag-in-Err-clause-reads g c = λ looked.
    let p = err_from_is_err_and c.from_residual-in_err-answer_to_no_tag-in-Err.result c.from_residual-in_err-answer_to_no_tag-in-Err.ensures.1 in
    stopped_first _ _ c.from_residual-in_err-answer_to_no_tag-in-Err.result p.0 p.1
