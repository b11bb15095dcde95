use Rattle.std.proofs.Common.{Err, refl, ap, ◌∙◌}
use Rattle.wire_base.specs.declared.outside.stopped.Stopped.{Stopped}
use Rattle.std.proofs.lemmas.Result.{err_from_is_err_and}
use Rattle.command_text.specs.declared.answer.Answer.{Answer}
use Rattle.command_text.specs.declared.ending.Ending.{Ending}
use Rattle.swid_cli.specs.Tagging.{TAG_OCTETS}
use Rattle.swid_cli.proofs.TagReading.{ended_so, input_reads, input_unread, stopped_behind, stopped_so}
use Rattle.swid_cli.proofs.TagTelling.{stopped_by_files, tag_wide}
use Rattle.swid_cli.proofs.Telling.{ran_front, ran_nothing, ran_whole}
use Rattle.swid_cli.proofs.tag.tag.Goals as goal

pub returns-in_err-fill-clause-printed : goal.returns-in_err-fill-clause-printed
returns-in_err-fill-clause-printed g c =
    let p = err_from_is_err_and c.from_residual.result c.from_residual.ensures.1 in
    ran_nothing TAG_OCTETS _ _ _ _ _ c.from_residual.result p.0 p.1 refl

pub returns-in_err-answer-clause-printed : goal.returns-in_err-answer-clause-printed
returns-in_err-answer-clause-printed g c =
    let p = err_from_is_err_and c.from_residual-in_err-answer.result c.from_residual-in_err-answer.ensures.1 in
    ran_nothing TAG_OCTETS _ _ _ _ _ c.from_residual-in_err-answer.result p.0 p.1 refl

pub returns-in_err-write_all-clause-printed : goal.returns-in_err-write_all-clause-printed
returns-in_err-write_all-clause-printed g c =
    let p = err_from_is_err_and c.from_residual-in_err-write_all.result c.from_residual-in_err-write_all.ensures.1 in
    ran_front TAG_OCTETS _ (tag_wide _ _) _ _ _ _ _ _ _ _ _ c.from_residual-in_err-write_all.result p.0 p.1 refl c.new-held.ensures.empty c.in_ok-fill.ensures.fills
    (rw c.as_slice.ensures.items at c.in_ok-answer.ensures.told) (rw c.as_slice-2.ensures.items at c.in_err-write_all.ensures.front)

pub returns-clause-printed : goal.returns-clause-printed
returns-clause-printed g c =
    ran_whole TAG_OCTETS _ (tag_wide _ _) _ _ _ _ _ _ _ _ _ refl c.new-held.ensures.empty c.in_ok-fill.ensures.fills
    (rw c.as_slice.ensures.items at c.in_ok-answer.ensures.told) (rw c.as_slice-2.ensures.items at c.in_ok-write_all.ensures.whole)

pub returns-in_err-answer-clause-causes : goal.returns-in_err-answer-clause-causes
returns-in_err-answer-clause-causes g c =
    let p = err_from_is_err_and c.from_residual-in_err-answer.result c.from_residual-in_err-answer.ensures.1 in
    stopped_by_files c.args.scope _ _ _ _ _ c.from_residual-in_err-answer.result c.in_err-answer.field-0.0 (p.1 ∙ ap (λ (stop : Stopped). Err stop) p.2) c.in_ok-fill.ensures.cause c.in_err-answer.ensures.looks.cause c.in_err-answer.ensures.looks.looked

pub returns-in_err-fill-clause-reads : goal.returns-in_err-fill-clause-reads
returns-in_err-fill-clause-reads g c = λ looked.
    let p = err_from_is_err_and c.from_residual.result c.from_residual.ensures.1 in
    input_unread _ _ c.from_residual.result p.0 p.1

pub returns-in_err-answer-clause-reads : goal.returns-in_err-answer-clause-reads
returns-in_err-answer-clause-reads g c = λ looked.
    let p = err_from_is_err_and c.from_residual-in_err-answer.result c.from_residual-in_err-answer.ensures.1 in
    input_reads Ending _ _ _ _ _ _ _ _ refl c.new-held.ensures.empty c.in_ok-fill.ensures.fills
    (stopped_so _ _ _ Answer c.from_residual-in_err-answer.result p.0 c.in_err-answer.field-0.0 p.1 p.2 ((rw c.as_slice.ensures.items at c.in_err-answer.ensures.reads) looked))

pub returns-in_err-write_all-clause-reads : goal.returns-in_err-write_all-clause-reads
returns-in_err-write_all-clause-reads g c = λ looked.
    let p = err_from_is_err_and c.from_residual-in_err-write_all.result c.from_residual-in_err-write_all.ensures.1 in
    input_reads Ending _ _ _ _ _ _ _ _ refl c.new-held.ensures.empty c.in_ok-fill.ensures.fills
    (stopped_behind _ _ _ c.in_ok-answer.answer c.from_residual-in_err-write_all.result p.0 p.1 ((rw c.as_slice.ensures.items at c.in_ok-answer.ensures.reads) looked))

pub returns-clause-reads : goal.returns-clause-reads
returns-clause-reads g c = λ looked.
    input_reads Ending _ _ _ _ _ _ _ _ refl c.new-held.ensures.empty c.in_ok-fill.ensures.fills
    (ended_so _ _ _ c.in_ok-answer.answer _ ((rw c.as_slice.ensures.items at c.in_ok-answer.ensures.reads) looked))
