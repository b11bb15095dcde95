-- The tags read so far stand before what is left.
use Rattle.std.proofs.Common.{◌≤◌, ◌-◌, length}
use Rattle.std.specs.List.{All}
use Rattle.cbor_det.specs.Term.{depth}
use Rattle.coswid_codec.specs.Items.{tag_item}
use Rattle.coswid_codec.specs.SizesFit.{SizesFit}
use Rattle.swid_cli.specs.TagList.{BeginsTags, LIST_TAGS}
use Rattle.swid_cli.proofs.links.tag_list.read_tags.Given as goal

abbrev pub invariant-loop-rest : goal.invariant-loop-rest
invariant-loop-rest l = record {
  begins : BeginsTags l.octets l.tags l.rest;
  within : length l.tags ≤ LIST_TAGS;
  shallow : All (λ g. depth (tag_item g) ≤ 64) l.tags;
  sizes : All SizesFit l.tags;
}

abbrev pub decreases-loop-rest : goal.decreases-loop-rest
decreases-loop-rest l = LIST_TAGS - length l.tags
