-- The items that a directory is read from, key by key, and what it holds: RFC 9393, section 2.9.2.
use Rattle.std.specs.Prelude.{◌≢◌, List, [], ◌∷◌, Option, Some, None}
use Rattle.cbor_det.specs.Lookup.{value_under}
use Rattle.cbor_det.specs.Term.{Term, Terms, Pairs, array, map, no_terms, term}
use Rattle.coswid_res.specs.declared.resources.directory.DirEntry.{DirEntry, out-DirEntry}
use Rattle.coswid_res.specs.declared.resources.directory.PathElements.{PathElements, out-PathElements}
use Rattle.coswid_res.specs.declared.resources.directory.DirEntry.TheOpen.{DirEntry-F, PathElements-F}
use Rattle.coswid_res.specs.Columns.{MapOf}
use Rattle.coswid_res.specs.Files.{file_table}
use Rattle.coswid_res.specs.Keys as keys
use Rattle.coswid_res.specs.Keys.{number}
use Rattle.coswid_res.specs.Schema as schema
use Rattle.coswid_res.specs.Words.{Text, Boolean, OneOrMore, IsMap, Required, Optional, Rest}

-- The lines of a directory except for what it holds.
pub record DirectoryKeys (d : DirEntry-F DirEntry PathElements) (ps : Pairs) : Type 0 where
  pub key : Optional keys.key Boolean d.key ps
  pub location : Optional keys.location Text d.location ps
  pub fs_name : Required keys.fs_name Text d.fs_name ps
  pub root : Optional keys.root Text d.root ps
  pub extras : Rest schema.directory d.extras ps

-- The lines of what it holds except for the directories in it.
pub record PathKeys (p : PathElements-F DirEntry PathElements) (ps : Pairs) : Type 0 where
  pub file : Optional keys.file (OneOrMore (MapOf file_table)) p.file ps
  pub extras : Rest schema.path_elements p.extras ps

-- Each level has the lines above and one more, under whose key the next level stands.
mutual
  -- The lines of a directory, and the optional `path_elements`: what it holds.
  pub data DirectoryPairs : DirEntry → Pairs → Type 0 where
    directory : (d : DirEntry) (ps : Pairs) → DirectoryKeys (out-DirEntry d) ps → PathUnder (out-DirEntry d).path_elements (value_under (number keys.path_elements) ps) → DirectoryPairs d ps

  -- what stands under `path_elements`, which is optional: neither a value nor an item, or one map
  -- of what the directory holds
  pub data PathUnder : Option PathElements → Option Term → Type 0 where
    no_path : PathUnder None None
    path : (p : PathElements) (ps : Pairs) → PathPairs p ps → PathUnder (Some p) (Some (map ps))

  -- The lines of what a directory holds, and the optional `directory`: one or more directories.
  pub data PathPairs : PathElements → Pairs → Type 0 where
    path_elements : (p : PathElements) (ps : Pairs) → PathKeys (out-PathElements p) ps → DirectoriesUnder (out-PathElements p).directory (value_under (number keys.directory) ps) → PathPairs p ps

  -- what stands under `directory`, which is optional: neither a value nor an item, or one or more
  -- directories, one alone as a map (`alone`) or an array of maps that is not empty (`several`)
  pub data DirectoriesUnder : Option (List DirEntry) → Option Term → Type 0 where
    no_directories : DirectoriesUnder None None
    alone : (d : DirEntry) (ps : Pairs) → DirectoryPairs d ps → DirectoriesUnder (Some (d ∷ [])) (Some (map ps))
    several : (ds : List DirEntry) (ts : Terms) → ds ≢ [] → EachDirectory ds ts → DirectoriesUnder (Some ds) (Some (array ts))

  -- each directory with the map at its place in that array
  pub data EachDirectory : List DirEntry → Terms → Type 0 where
    no_more : EachDirectory [] no_terms
    one_more : (d : DirEntry) (ds : List DirEntry) (ps : Pairs) (ts : Terms) → DirectoryPairs d ps → EachDirectory ds ts → EachDirectory (d ∷ ds) (term (map ps) ts)

abbrev pub DirectoryMap : DirEntry → Term → Type 0
DirectoryMap d = IsMap (DirectoryPairs d)

abbrev pub PathMap : PathElements → Term → Type 0
PathMap p = IsMap (PathPairs p)
