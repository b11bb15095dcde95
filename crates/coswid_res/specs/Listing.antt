-- The files of a payload with their paths: files before directories, depth first (RFC 9393,
-- sections 2.9.2 and 2.9.3).
use Rattle.std.specs.Prelude.{ℕ, List, [], ◌∷◌, ◌++◌, map as map_list, Option}
use Rattle.std.specs.List.{flat_map}
use Rattle.std.specs.Option.{option_map, unwrap_or}
use Rattle.coswid_res.specs.declared.resources.directory.DirEntry.{DirEntry, fold-DirEntry}
use Rattle.coswid_res.specs.declared.resources.directory.PathElements.{PathElements, fold-PathElements}
use Rattle.coswid_res.specs.declared.resources.directory.DirEntry.TheOpen as layer
use Rattle.coswid_res.specs.declared.resources.file.FileEntry.{FileEntry}
use Rattle.coswid_res.specs.declared.resources.hash.HashEntry.{HashEntry}
use Rattle.coswid_res.specs.declared.resources.payload.Payload.{Payload}

-- A path and what it leads on to, with '/' between; what is empty is left out.
abbrev pub with_part : List ℕ → List ℕ → List ℕ
with_part [] part = part
with_part (octet ∷ path) [] = octet ∷ path
with_part (octet ∷ path) (first ∷ part) = octet ∷ path ++ 0x2f ∷ first ∷ part

abbrev pub with_parts : List ℕ → List (List ℕ) → List ℕ
with_parts path [] = path
with_parts path (part ∷ parts) = with_parts (with_part path part) parts

-- The parts that are not empty, with '/' between them.
abbrev pub joined : List (List ℕ) → List ℕ
joined parts = with_parts [] parts

-- The path of a directory in directories whose path is `around`. Its root is not looked at.
abbrev pub directory_path : List ℕ → Option (List ℕ) → List ℕ → List ℕ
directory_path around location name = joined (around ∷ unwrap_or location [] ∷ name ∷ [])

-- The path of a file in them. Its root stands before all else.
abbrev pub file_path : List ℕ → FileEntry → List ℕ
file_path around f = joined (unwrap_or f.root [] ∷ around ∷ unwrap_or f.location [] ∷ f.fs_name ∷ [])

-- What a payload states of one file: its path, how many octets it has, and their hash.
pub record ListedFile : Type 0 where
  pub path : List ℕ
  pub size : Option ℕ
  pub hash : Option HashEntry

-- What an entry states of the file of this path.
abbrev pub stated_file : List ℕ → FileEntry → ListedFile
stated_file path f = record { path = path; size = f.size; hash = f.hash }

abbrev pub listed_file : List ℕ → FileEntry → ListedFile
listed_file around f = stated_file (file_path around f) f

-- The files of something that stands in directories of a path.
abbrev pub Listing : Type 0
Listing = List ℕ → List ListedFile

abbrev pub files_listing : Option (List FileEntry) → Listing
files_listing files around = map_list (listed_file around) (unwrap_or files [])

abbrev pub each_listing : Option (List Listing) → Listing
each_listing directories around = flat_map (λ listing. listing around) (unwrap_or directories [])

-- A directory, and what it holds, whose parts stand as their listings.
abbrev pub directory_step : layer.DirEntry-F Listing Listing → Listing
directory_step d around = unwrap_or (option_map (λ held. held (directory_path around d.location d.fs_name)) d.path_elements) []

abbrev pub path_step : layer.PathElements-F Listing Listing → Listing
path_step p around = files_listing p.file around ++ each_listing p.directory around

abbrev pub directory_listing : DirEntry → Listing
directory_listing = fold-DirEntry Listing Listing directory_step path_step

abbrev pub path_listing : PathElements → Listing
path_listing = fold-PathElements Listing Listing directory_step path_step

abbrev pub directories_listing : Option (List DirEntry) → Listing
directories_listing directories around = flat_map (λ d. directory_listing d around) (unwrap_or directories [])

-- The files of a payload that stands in directories of this path; of one that stands in none.
abbrev pub listed_in : List ℕ → Payload → List ListedFile
listed_in around p = files_listing p.file around ++ directories_listing p.directory around

abbrev pub listed : Payload → List ListedFile
listed = listed_in []
