-- By the pairs, one after another.
use Rattle.coswid_res.proofs.Lines.{line_by_line}
use Rattle.coswid_res.proofs.laws.faults_are_told_line_by_line.Goals as goal

pub returns : goal.returns
returns c = record { same = line_by_line }
