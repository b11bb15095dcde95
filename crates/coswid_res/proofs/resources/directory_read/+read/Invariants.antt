-- The depth falls; the elements before have these directories, and the first fault of all is that
-- of those that are left.
use Rattle.std.proofs.Common.{◌≡◌, ◌≤◌, ◌<◌, ◌+◌, ◌*◌, ◌^◌, length, map}
use Rattle.std.specs.Vec.Iter.{into_iter_items, into_iter_len}
use Rattle.cbor_det.specs.Term.{depth, terms_depth, pairs_depth}
use Rattle.cbor_det.specs.View.{view, terms_of, pairs_view}
use Rattle.coswid_res.specs.Directories.{DirectoryMap}
use Rattle.coswid_res.specs.Fault.{elements_fault}
use Rattle.coswid_res.specs.Schema.{a_map, directory}
use Rattle.coswid_res.proofs.Elements.{Completes}
use Rattle.coswid_res.proofs.resources.directory_read.+read.Given as goal

abbrev pub decreases-read_directory : goal.decreases-read_directory
decreases-read_directory l = 8 * pairs_depth (pairs_view l.pairs) + 3

abbrev pub decreases-path_under : goal.decreases-path_under
decreases-path_under l = 8 * pairs_depth (pairs_view l.pairs.now) + 2

abbrev pub decreases-path_at : goal.decreases-path_at
decreases-path_at l = 8 * depth (view l.item) + 1

abbrev pub decreases-path_of : goal.decreases-path_of
decreases-path_of l = 8 * depth (view l.item)

abbrev pub decreases-read_path : goal.decreases-read_path
decreases-read_path l = 8 * pairs_depth (pairs_view l.pairs) + 4

abbrev pub decreases-directories_under : goal.decreases-directories_under
decreases-directories_under l = 8 * pairs_depth (pairs_view l.pairs.now) + 3

abbrev pub decreases-directories_at : goal.decreases-directories_at
decreases-directories_at l = 8 * depth (view l.item) + 2

abbrev pub decreases-directories_of : goal.decreases-directories_of
decreases-directories_of l = 8 * depth (view l.item) + 1

abbrev pub decreases-read_elements : goal.decreases-read_elements
decreases-read_elements l = 8 * terms_depth (terms_of (map view l.items)) + 2

abbrev pub decreases-directory_at : goal.decreases-directory_at
decreases-directory_at l = 8 * depth (view l.item) + 1

abbrev pub decreases-directory_of : goal.decreases-directory_of
decreases-directory_of l = 8 * depth (view l.item)

abbrev pub invariant-read_elements-loop-item : goal.invariant-read_elements-loop-item
invariant-read_elements-loop-item l = record {
  each : Completes DirectoryMap l.directories (into_iter_items l.item-iterator) l.fn.items;
  first : elements_fault (a_map directory) 0 (terms_of (map view l.fn.items)) ≡ elements_fault (a_map directory) l.place (terms_of (map view (into_iter_items l.item-iterator)));
  deep : terms_depth (terms_of (map view (into_iter_items l.item-iterator))) ≤ terms_depth (terms_of (map view l.fn.items));
  len : into_iter_len l.item-iterator ≡ length (into_iter_items l.item-iterator);
  small : l.place + length (into_iter_items l.item-iterator) < 2 ^ 63;
}
