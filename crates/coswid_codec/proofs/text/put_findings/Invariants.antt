-- The lines of the findings gone over stand after what stood there.
use Rattle.std.proofs.Common.{◌≡◌, ◌++◌, take}
use Rattle.std.specs.List.{flat_map}
use Rattle.coswid_codec.specs.TagText.{finding_line}
use Rattle.coswid_codec.proofs.text.put_findings.Given as goal

abbrev pub invariant-loop-number : goal.invariant-loop-number
invariant-loop-number l = l.out ≡ l.fn.out ++ flat_map finding_line (take l.number-index l.found)
