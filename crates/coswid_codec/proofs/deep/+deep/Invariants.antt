-- The levels fall; the parts before are not so deep.
use Rattle.std.proofs.Common.{◌+◌, ◌*◌, ◌<◌, map, take}
use Rattle.cbor_det.specs.Term.{terms_depth}
use Rattle.cbor_det.specs.View.{view, terms_of, pairs_view}
use Rattle.coswid_codec.proofs.Depths.{front_depth}
use Rattle.coswid_codec.proofs.deep.+deep.Given as goal

abbrev pub decreases-reaches : goal.decreases-reaches
decreases-reaches l = 4 * l.levels

abbrev pub decreases-any_reaches : goal.decreases-any_reaches
decreases-any_reaches l = 4 * l.levels + 1

abbrev pub decreases-pairs_reach : goal.decreases-pairs_reach
decreases-pairs_reach l = 4 * l.levels + 2

abbrev pub decreases-part_reaches : goal.decreases-part_reaches
decreases-part_reaches l = 4 * l.levels + 1

abbrev pub invariant-any_reaches-loop-item : goal.invariant-any_reaches-loop-item
invariant-any_reaches-loop-item l = terms_depth (terms_of (map view (take l.item-index l.items))) < l.levels

abbrev pub invariant-pairs_reach-loop-place : goal.invariant-pairs_reach-loop-place
invariant-pairs_reach-loop-place l = front_depth l.place (pairs_view l.pairs) < l.levels
