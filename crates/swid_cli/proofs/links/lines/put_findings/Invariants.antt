-- The lines of the findings gone over stand after what stood there.
use Rattle.std.proofs.Common.{◌≡◌, ◌++◌, take}
use Rattle.std.specs.List.{flat_map}
use Rattle.swid_cli.specs.Links.{finding_line}
use Rattle.swid_cli.proofs.links.lines.put_findings.Given as goal

abbrev pub invariant-loop-finding : goal.invariant-loop-finding
invariant-loop-finding l = l.out ≡ l.fn.out ++ flat_map finding_line (take l.finding-index l.found)
