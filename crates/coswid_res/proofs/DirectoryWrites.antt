-- The pairs that a directory and what it holds are written as, by their fields.
use Rattle.std.proofs.Common.{◌≡◌, List, [], ◌∷◌, map as map_list, Option, Some, None, refl, ap, ◌∙◌, rules}
use Rattle.cbor_det.specs.Laid.{Row, put_row, put_rows}
use Rattle.cbor_det.specs.Term.{Term, Pairs, text, map, boolean}
use Rattle.cbor_det.specs.View.{pairs_view}
use Rattle.coswid_res.specs.declared.resources.directory.DirEntry.{DirEntry, out-DirEntry, the_lemmas}
use Rattle.coswid_res.specs.declared.resources.directory.PathElements.{PathElements, out-PathElements}
use Rattle.coswid_res.specs.DirectoryItems.{directory_pairs, path_pairs, directory_item, path_item, directories_item}
use Rattle.coswid_res.specs.Columns.{maps_of}
use Rattle.coswid_res.specs.Files.{file_table}
use Rattle.coswid_res.specs.Items.{row_item, required_pair, optional_pair}
use Rattle.coswid_res.specs.Keys as keys
use Rattle.std.specs.Option.{option_map}

-- A part is put as the item of its pairs.
mapped : {A B : Type 0} (f : A → B) (item : B → Term) (x : Option A) → option_map item (option_map f x) ≡ option_map (λ (v : A). item (f v)) x
mapped f item None = refl
mapped f item (Some v) = refl

abbrev pub directory_rows : DirEntry → List Row
directory_rows d =
    optional_pair keys.key boolean (out-DirEntry d).key
    ∷ optional_pair keys.location text (out-DirEntry d).location
    ∷ required_pair keys.fs_name text (out-DirEntry d).fs_name
    ∷ optional_pair keys.root text (out-DirEntry d).root
    ∷ optional_pair keys.path_elements path_item (out-DirEntry d).path_elements
    ∷ []

abbrev pub path_rows : PathElements → List Row
path_rows p =
    optional_pair keys.directory directories_item (out-PathElements p).directory
    ∷ optional_pair keys.file (maps_of file_table) (out-PathElements p).file
    ∷ []

-- all rows but the last
abbrev plain_pairs : DirEntry → Pairs
plain_pairs d =
    put_rows (
    optional_pair keys.key boolean (out-DirEntry d).key
    ∷ optional_pair keys.location text (out-DirEntry d).location
    ∷ required_pair keys.fs_name text (out-DirEntry d).fs_name
    ∷ optional_pair keys.root text (out-DirEntry d).root
    ∷ []) (pairs_view (out-DirEntry d).extras)

directory_folded : (d : DirEntry) → directory_pairs d ≡ put_row (26, option_map map (option_map path_pairs (out-DirEntry d).path_elements)) (plain_pairs d)
directory_folded d = search (rules, the_lemmas)

pub directory_written : (d : DirEntry) → directory_pairs d ≡ put_rows (directory_rows d) (pairs_view (out-DirEntry d).extras)
directory_written d = directory_folded d ∙ ap (λ (o : Option Term). put_row (26, o) (plain_pairs d)) (mapped path_pairs map (out-DirEntry d).path_elements)

items : (ds : List DirEntry) → map_list map (map_list directory_pairs ds) ≡ map_list directory_item ds
items [] = refl
items (d ∷ ds) = ap (λ (ts : List Term). directory_item d ∷ ts) (items ds)

some_rows : (x : Option (List DirEntry))
    → option_map (λ (qs : List Pairs). row_item (map_list map qs)) (option_map (λ (ds : List DirEntry). map_list directory_pairs ds) x) ≡ option_map directories_item x
some_rows None = refl
some_rows (Some ds) = ap (λ (ts : List Term). Some (row_item ts)) (items ds)

path_folded : (p : PathElements) → path_pairs p ≡ put_rows (
    optional_pair keys.directory (λ (qs : List Pairs). row_item (map_list map qs)) (option_map (λ (ds : List DirEntry). map_list directory_pairs ds) (out-PathElements p).directory)
    ∷ optional_pair keys.file (maps_of file_table) (out-PathElements p).file
    ∷ []) (pairs_view (out-PathElements p).extras)
path_folded p = search (rules, the_lemmas)

pub path_written : (p : PathElements) → path_pairs p ≡ put_rows (path_rows p) (pairs_view (out-PathElements p).extras)
path_written p =
    path_folded p ∙ ap (λ (o : Option Term). put_row (17, option_map (maps_of file_table) (out-PathElements p).file) (put_row (16, o) (pairs_view (out-PathElements p).extras))) (some_rows (out-PathElements p).directory)
