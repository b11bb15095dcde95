-- The lines of the files gone over stand after what stood there.
use Rattle.std.proofs.Common.{◌≡◌, ◌++◌, take}
use Rattle.std.specs.List.{flat_map}
use Rattle.swid_cli.specs.Checking.{file_line}
use Rattle.swid_cli.proofs.tag.verdict_lines.put_files.Given as goal

abbrev pub invariant-loop-file : goal.invariant-loop-file
invariant-loop-file l = l.out ≡ l.fn.out ++ flat_map file_line (take l.file-index l.files)
