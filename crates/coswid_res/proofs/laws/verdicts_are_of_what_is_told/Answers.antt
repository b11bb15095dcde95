-- By the files, one after another.
use Rattle.coswid_res.proofs.FileVerdicts.{told_verdicts}
use Rattle.coswid_res.proofs.laws.verdicts_are_of_what_is_told.Goals as goal

pub returns : goal.returns
returns c = record { told = told_verdicts }
