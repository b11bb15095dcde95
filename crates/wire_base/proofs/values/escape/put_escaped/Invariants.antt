-- The text of the octets that are left is to follow what is put.
use Rattle.std.proofs.Common.{◌≡◌, ◌++◌, length}
use Rattle.std.specs.List.{flat_map}
use Rattle.wire_base.specs.Escaped.{escaped_octet}
use Rattle.wire_base.proofs.values.escape.put_escaped.Given as goal

abbrev pub invariant-loop-first : goal.invariant-loop-first
invariant-loop-first l = l.out ++ flat_map escaped_octet l.rest ≡ l.fn.out ++ flat_map escaped_octet l.octets

abbrev pub decreases-loop-first : goal.decreases-loop-first
decreases-loop-first l = length l.rest
