-- What is put are the lines of the records gone over.
use Rattle.std.proofs.Common.{◌≡◌, ◌++◌}
use Rattle.command_text.specs.Text.{lines_between}
use Rattle.command_text.proofs.mirror_lines.put_records.Given as goal

abbrev pub invariant-loop-place : goal.invariant-loop-place
invariant-loop-place l = l.out ≡ l.fn.out ++ lines_between l.start l.place l.mirror
