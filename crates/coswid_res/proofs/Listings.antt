-- The listing of a directory and of what it holds, by their fields.
use Rattle.std.proofs.Common.{◌≡◌, ◌++◌, ℕ, List, [], ◌∷◌, map as map_list, Option, Some, None, refl, sym, ap, ◌∙◌, rules}
use Rattle.std.proofs.lemmas.List.Concat.{flat_map_single}
use Rattle.std.specs.List.{flat_map}
use Rattle.std.specs.Option.{option_map, unwrap_or}
use Rattle.coswid_res.specs.declared.resources.directory.DirEntry.{DirEntry, out-DirEntry, the_lemmas}
use Rattle.coswid_res.specs.declared.resources.directory.PathElements.{PathElements, out-PathElements}
use Rattle.coswid_res.specs.declared.resources.file.FileEntry.{FileEntry}
use Rattle.coswid_res.specs.Listing.{ListedFile, Listing, directory_listing, path_listing, directories_listing, directory_path, each_listing, files_listing, listed_file}

-- What is listed of each may be listed of the listings of all.
each : (ds : List DirEntry) (around : List ℕ) → flat_map (λ (listing : Listing). listing around) (map_list directory_listing ds) ≡ flat_map (λ (d : DirEntry). directory_listing d around) ds
each [] around = refl
each (d ∷ ds) around = ap (λ (files : List ListedFile). directory_listing d around ++ files) (each ds around)

some_each : (x : Option (List DirEntry)) (around : List ℕ) → each_listing (option_map (λ (ds : List DirEntry). map_list directory_listing ds) x) around ≡ directories_listing x around
some_each None around = refl
some_each (Some ds) around = each ds around

directory_folded : (d : DirEntry) (around : List ℕ) → directory_listing d around
    ≡ unwrap_or (option_map (λ (held : Listing). held (directory_path around (out-DirEntry d).location (out-DirEntry d).fs_name)) (option_map path_listing (out-DirEntry d).path_elements)) []
directory_folded d around = search (rules, the_lemmas)

held : (x : Option PathElements) (path : List ℕ) → unwrap_or (option_map (λ (listing : Listing). listing path) (option_map path_listing x)) [] ≡ unwrap_or (option_map (λ (p : PathElements). path_listing p path) x) []
held None path = refl
held (Some p) path = refl

path_folded : (p : PathElements) (around : List ℕ) → path_listing p around
    ≡ files_listing (out-PathElements p).file around ++ each_listing (option_map (λ (ds : List DirEntry). map_list directory_listing ds) (out-PathElements p).directory) around
path_folded p around = search (rules, the_lemmas)

pub path_listed : (p : PathElements) (around : List ℕ) → path_listing p around ≡ files_listing (out-PathElements p).file around ++ directories_listing (out-PathElements p).directory around
path_listed p around = path_folded p around ∙ ap (λ (files : List ListedFile). files_listing (out-PathElements p).file around ++ files) (some_each (out-PathElements p).directory around)

-- The files of entries are those of each of them.
pub files_of_each : (around : List ℕ) (entries : Option (List FileEntry)) (some items : List FileEntry) → entries ≡ Some some → items ≡ some
    → flat_map (λ (f : FileEntry). listed_file around f ∷ []) items ≡ files_listing entries around
files_of_each around entries some items is are =
    flat_map_single (listed_file around) items ∙ ap (λ (fs : List FileEntry). map_list (listed_file around) fs) are ∙ ap (λ (fs : Option (List FileEntry)). files_listing fs around) (sym is)
