-- None of the files so far has the name.
use Rattle.std.proofs.Common.{◌≡◌, drop}
use Rattle.wire_base.specs.NamedFile.{content_of}
use Rattle.wire_base.proofs.outside.mem_files.first_content.Given as goal

abbrev pub invariant-loop-file : goal.invariant-loop-file
invariant-loop-file l = content_of l.files l.name ≡ content_of (drop l.file-index l.files) l.name
