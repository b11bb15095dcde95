-- A fault is reported from one level further up; a map is read by its pairs, and an array by its
-- elements, one after another.
use Rattle.std.proofs.Common.{◌≡◌, ◌<◌, ◌+◌, ◌*◌, [], ◌∷◌, arith, rules}
use Rattle.std.proofs.lemmas.List.{nil_from_length}
use Rattle.std.specs.Vec.Iter.{into_iter_items}
use Rattle.cbor_det.specs.Term.{pairs_depth}
use Rattle.cbor_det.specs.View.{view, pairs_view}
use Rattle.coswid_res.specs.Directories.{DirectoryPairs, PathPairs, DirectoryMap}
use Rattle.coswid_res.specs.Fault.{field_fault}
use Rattle.coswid_res.specs.Schema as schema
use Rattle.coswid_res.specs.Schema.{one, one_or_more, a_map}
use Rattle.coswid_res.proofs.DirectoryDepths.{left_deep}
use Rattle.coswid_res.proofs.Elements.{all_read, row_of_array}
use Rattle.coswid_res.proofs.MapRead.{map_read}
use Rattle.coswid_res.proofs.resources.directory_read.+read.Goals as goal

pub read_directory-path_under-requires : goal.read_directory-path_under-requires
read_directory-path_under-requires t c =
    let one = left_deep (22 ∷ []) (pairs_view c.args.pairs) _ c.in_ok-key.ensures.left in
    let two = left_deep (23 ∷ []) (pairs_view c.optional.new.pairs) _ c.in_ok-location.ensures.left in
    let three = left_deep (24 ∷ []) (pairs_view c.optional-2.new.pairs) _ c.in_ok-fs_name.ensures.left in
    let four = left_deep (25 ∷ []) (pairs_view c.required.new.pairs) _ c.in_ok-root.ensures.left in
    let falls : 8 * pairs_depth (pairs_view c.optional-3.new.pairs) + 2 < t = omega (arith, c.decreases, one, two, three, four) in
    (falls, tt {0})

pub path_at-returns-in-Err : goal.path_at-returns-in-Err
path_at-returns-in-Err t c = record { told = c.under.ensures.told (field_fault (one (a_map schema.path_elements)) (view c.args.item)) c.in-Err.ensures.told }

pub directories_at-returns-in-Err : goal.directories_at-returns-in-Err
directories_at-returns-in-Err t c = record { told = c.under.ensures.told (field_fault (one_or_more (a_map schema.directory)) (view c.args.item)) c.in-Err.ensures.told }

pub directory_at-returns-in-Err : goal.directory_at-returns-in-Err
directory_at-returns-in-Err t c = record { told = c.under.ensures.told (field_fault (one (a_map schema.directory)) (view c.args.item)) c.in-Err.ensures.told }

pub path_of-returns-in-Map : goal.path_of-returns-in-Map
path_of-returns-in-Map t c = record { told = map_read schema.path_elements PathPairs c.args.item c.in-Map.pairs c.read_path.result c.in-Map.is c.read_path.ensures.told }

pub directory_of-returns-in-Map : goal.directory_of-returns-in-Map
directory_of-returns-in-Map t c = record { told = map_read schema.directory DirectoryPairs c.args.item c.in-Map.pairs c.read_directory.result c.in-Map.is c.read_directory.ensures.told }

pub directories_of-returns-else-is_empty : goal.directories_of-returns-else-is_empty
directories_of-returns-else-is_empty t c =
    let some : c.in-Array.items ≡ [] → ⊥ = search rules in
    record { told = row_of_array DirectoryMap (a_map schema.directory) c.args.item c.in-Array.items c.read_elements.result c.in-Array.is some c.read_elements.ensures.told }

pub read_elements-returns : goal.read_elements-returns
read_elements-returns t c =
    let none = nil_from_length (into_iter_items c.loop-item.item-iterator) (omega (arith, c.loop-item.invariant.len, c.in-None.ensures.steps.0)) in
    record { told = all_read DirectoryMap (a_map schema.directory) c.loop-item.directories c.loop-item.place _ _ none c.loop-item.invariant.first c.loop-item.invariant.each }
