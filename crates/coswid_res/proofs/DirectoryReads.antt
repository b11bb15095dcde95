-- What stands under the keys of directories, in the words of the tables and case by case.
use Rattle.std.proofs.Common.{List, [], ◌∷◌, Option, Some, None}
use Rattle.cbor_det.specs.Lookup.{value_under}
use Rattle.cbor_det.specs.Term.{Term, Terms, Pairs, array, map, no_terms, term}
use Rattle.coswid_res.specs.declared.resources.directory.DirEntry.{DirEntry}
use Rattle.coswid_res.specs.declared.resources.directory.PathElements.{PathElements}
use Rattle.coswid_res.specs.declared.resources.directory.DirEntry.TheOpen.{DirEntry-F, PathElements-F}
use Rattle.coswid_res.specs.declared.resources.directory.DirEntry.TheViews as views
use Rattle.coswid_res.specs.declared.resources.directory.DirEntry.TheViews.{roll-DirEntry, roll-PathElements}
use Rattle.coswid_res.specs.Directories.{DirectoryKeys, PathKeys, DirectoryPairs, directory, PathUnder, no_path, path, PathPairs, path_elements, DirectoriesUnder, no_directories, alone, several, EachDirectory, no_more, one_more, DirectoryMap, PathMap}
use Rattle.coswid_res.specs.Keys as keys
use Rattle.coswid_res.specs.Keys.{number}
use Rattle.coswid_res.specs.Words.{Agree, Each, OneOrMore, Optional}

pub path_under : (x : Option PathElements) (o : Option Term) → Agree PathMap x o → PathUnder x o
path_under None None is = no_path
path_under (Some p) (Some (map ps)) is = path p ps is
path_under x o is = absurd is

pub each_directory : (ds : List DirEntry) (ts : Terms) → Each DirectoryMap ds ts → EachDirectory ds ts
each_directory [] no_terms is = no_more
each_directory [] (term t ts) is = absurd is
each_directory (d ∷ ds) no_terms is = absurd is
each_directory (d ∷ ds) (term (map ps) ts) is = one_more d ds ps ts is.0 (each_directory ds ts is.1)
each_directory (d ∷ ds) ts is = absurd is.0

pub directories_under : (x : Option (List DirEntry)) (o : Option Term) → Agree (OneOrMore DirectoryMap) x o → DirectoriesUnder x o
directories_under None None is = no_directories
directories_under (Some ds) (Some (array ts)) is = several ds ts is.0 (each_directory ds ts is.1)
directories_under (Some (d ∷ [])) (Some (map ps)) is = alone d ps is
directories_under (Some (d ∷ [])) (Some t) is = absurd is
directories_under x o is = absurd is

-- A directory that is made of its fields, and what it holds, are read from these pairs.
pub directory_made : (d : DirEntry-F DirEntry PathElements) (ps : Pairs) → DirectoryKeys d ps → Optional keys.path_elements PathMap d.path_elements ps → DirectoryPairs (roll-DirEntry d) ps
directory_made d ps lines inside =
    directory (roll-DirEntry d) ps (rw (views.out-roll-DirEntry d) lines) (rw (views.out-roll-DirEntry d) (path_under d.path_elements (value_under (number keys.path_elements) ps) inside))

pub path_made : (p : PathElements-F DirEntry PathElements) (ps : Pairs) → PathKeys p ps → Optional keys.directory (OneOrMore DirectoryMap) p.directory ps → PathPairs (roll-PathElements p) ps
path_made p ps lines inside =
    path_elements (roll-PathElements p) ps (rw (views.out-roll-PathElements p) lines)
    (rw (views.out-roll-PathElements p) (directories_under p.directory (value_under (number keys.directory) ps) inside))

-- and back

pub path_agrees : (x : Option PathElements) (o : Option Term) → PathUnder x o → Agree PathMap x o
path_agrees x o no_path = tt
path_agrees x o (path p ps is) = is

pub each_agrees : (ds : List DirEntry) (ts : Terms) → EachDirectory ds ts → Each DirectoryMap ds ts
each_agrees ds ts no_more = tt
each_agrees ds ts (one_more d es ps us is rest) = (is, each_agrees es us rest)

pub directories_agree : (x : Option (List DirEntry)) (o : Option Term) → DirectoriesUnder x o → Agree (OneOrMore DirectoryMap) x o
directories_agree x o no_directories = tt
directories_agree x o (alone d ps is) = is
directories_agree x o (several ds ts some each) = (some, each_agrees ds ts each)
