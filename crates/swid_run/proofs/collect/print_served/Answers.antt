use Rattle.std.proofs.lemmas.Result.{err_from_is_err_and}
use Rattle.swid_run.proofs.Printing.{prints_nothing}
use Rattle.swid_run.proofs.collect.print_served.Goals as goal

pub returns-in_err-text : goal.returns-in_err-text
returns-in_err-text g c =
    let memory = err_from_is_err_and c.from_residual.result c.from_residual.ensures.1 in
    record { prints = λ chronicle stands. rw (memory.1, memory.2) (prints_nothing _ _ _) }
