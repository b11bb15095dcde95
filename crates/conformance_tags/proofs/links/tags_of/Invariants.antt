-- Each tag takes octets, and those read can be written.
use Rattle.std.proofs.Common.{◌≤◌, length}
use Rattle.std.specs.List.{All}
use Rattle.cbor_det.specs.Term.{depth}
use Rattle.coswid_codec.specs.Items.{tag_item}
use Rattle.coswid_codec.specs.SizesFit.{SizesFit}
use Rattle.conformance_tags.proofs.links.tags_of.Given as goal

abbrev pub invariant-loop-rest : goal.invariant-loop-rest
invariant-loop-rest l = record {
  shallow : All (λ g. depth (tag_item g) ≤ 64) l.tags.items;
  sizes : All SizesFit l.tags.items;
}

abbrev pub decreases-loop-rest : goal.decreases-loop-rest
decreases-loop-rest l = length l.rest
