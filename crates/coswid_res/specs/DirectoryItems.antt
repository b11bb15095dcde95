-- The pairs that a directory is written as, and the item of several: RFC 9393, section 2.9.2.
use Rattle.std.specs.Prelude.{List, [], ◌∷◌, map as map_list}
use Rattle.cbor_det.specs.Laid.{put_rows}
use Rattle.cbor_det.specs.Term.{Term, Pairs, text, map, boolean}
use Rattle.cbor_det.specs.View.{pairs_view}
use Rattle.coswid_res.specs.declared.resources.directory.DirEntry.{DirEntry, fold-DirEntry}
use Rattle.coswid_res.specs.declared.resources.directory.PathElements.{PathElements, fold-PathElements}
use Rattle.coswid_res.specs.declared.resources.directory.DirEntry.TheOpen as layer
use Rattle.coswid_res.specs.Columns.{maps_of}
use Rattle.coswid_res.specs.Files.{file_table}
use Rattle.coswid_res.specs.Items.{row_item, required_pair, optional_pair}
use Rattle.coswid_res.specs.Keys as keys

-- A directory, whose parts stand as the pairs that they are written as.
abbrev pub directory_step : layer.DirEntry-F Pairs Pairs → Pairs
directory_step d =
    put_rows (
    optional_pair keys.key boolean d.key
    ∷ optional_pair keys.location text d.location
    ∷ required_pair keys.fs_name text d.fs_name
    ∷ optional_pair keys.root text d.root
    ∷ optional_pair keys.path_elements map d.path_elements
    ∷ []) (pairs_view d.extras)

-- What a directory holds, likewise.
abbrev pub path_step : layer.PathElements-F Pairs Pairs → Pairs
path_step p =
    put_rows (
    optional_pair keys.directory (λ ds. row_item (map_list map ds)) p.directory
    ∷ optional_pair keys.file (maps_of file_table) p.file
    ∷ []) (pairs_view p.extras)

abbrev pub directory_pairs : DirEntry → Pairs
directory_pairs = fold-DirEntry Pairs Pairs directory_step path_step

abbrev pub path_pairs : PathElements → Pairs
path_pairs = fold-PathElements Pairs Pairs directory_step path_step

abbrev pub directory_item : DirEntry → Term
directory_item d = map (directory_pairs d)

abbrev pub path_item : PathElements → Term
path_item p = map (path_pairs p)

abbrev pub directories_item : List DirEntry → Term
directories_item ds = row_item (map_list directory_item ds)
