-- The sizes of the files in a directory, and in what it holds, by their fields.
use Rattle.std.proofs.Common.{◌≡◌, ◌++◌, List, [], ◌∷◌, map as map_list, Option, Some, None, refl, sym, ap, ◌∙◌, subst, rules}
use Rattle.std.proofs.lemmas.List.Elements.{All-nil, All-cons, All-head, All-tail, All-append}
use Rattle.std.specs.List.{All, flat_map}
use Rattle.std.specs.Option.{ForSome, option_map, unwrap_or}
use Rattle.coswid_res.specs.declared.resources.directory.DirEntry.{DirEntry, out-DirEntry, the_lemmas}
use Rattle.coswid_res.specs.declared.resources.directory.PathElements.{PathElements, out-PathElements}
use Rattle.coswid_res.specs.declared.resources.file.FileEntry.{FileEntry}
use Rattle.coswid_res.specs.Sizes.{SizeFits, SizesFit, directory_files, path_files, DirectorySizesFit, PathSizesFit}

-- all of two lists, and of several

left : (xs ys : List FileEntry) → SizesFit (xs ++ ys) → SizesFit xs
left [] ys fit = All-nil SizeFits
left (x ∷ xs) ys fit = All-cons SizeFits x xs (All-head SizeFits x (xs ++ ys) fit) (left xs ys (All-tail SizeFits x (xs ++ ys) fit))

right : (xs ys : List FileEntry) → SizesFit (xs ++ ys) → SizesFit ys
right [] ys fit = fit
right (x ∷ xs) ys fit = right xs ys (All-tail SizeFits x (xs ++ ys) fit)

abbrev in_directories : List DirEntry → List FileEntry
in_directories ds = flat_map (λ files. files) (map_list directory_files ds)

each_of : (ds : List DirEntry) → SizesFit (in_directories ds) → All DirectorySizesFit ds
each_of [] fit = All-nil DirectorySizesFit
each_of (d ∷ ds) fit =
    All-cons DirectorySizesFit d ds (left (directory_files d) (in_directories ds) fit) (each_of ds (right (directory_files d) (in_directories ds) fit))

each_to : (ds : List DirEntry) → All DirectorySizesFit ds → SizesFit (in_directories ds)
each_to [] fit = All-nil SizeFits
each_to (d ∷ ds) fit =
    All-append SizeFits (directory_files d) (in_directories ds) (All-head DirectorySizesFit d ds fit) (each_to ds (All-tail DirectorySizesFit d ds fit))

-- by fields

directory_folded : (d : DirEntry) → directory_files d ≡ unwrap_or (option_map path_files (out-DirEntry d).path_elements) []
directory_folded d = search (rules, the_lemmas)

path_folded : (p : PathElements) → path_files p
    ≡ unwrap_or (out-PathElements p).file [] ++ flat_map (λ files. files) (unwrap_or (option_map (λ (ds : List DirEntry). map_list directory_files ds) (out-PathElements p).directory) [])
path_folded p = search (rules, the_lemmas)

abbrev under : Option (List FileEntry) → Option (List DirEntry) → List FileEntry
under files directories = unwrap_or files [] ++ flat_map (λ fs. fs) (unwrap_or (option_map (λ (ds : List DirEntry). map_list directory_files ds) directories) [])

-- What a directory holds, and what stands in it, fits where the directory does.

pub files_fit : (p : PathElements) → PathSizesFit p → ForSome (out-PathElements p).file SizesFit
files_fit p fit fs some =
    let e : path_files p ≡ under (Some fs) (out-PathElements p).directory = path_folded p ∙ ap (λ (x : Option (List FileEntry)). under x (out-PathElements p).directory) some in
    left fs _ (subst SizesFit e fit)

pub directories_fit : (p : PathElements) → PathSizesFit p → ForSome (out-PathElements p).directory (All DirectorySizesFit)
directories_fit p fit ds some =
    let e : path_files p ≡ under (out-PathElements p).file (Some ds) = path_folded p ∙ ap (λ (x : Option (List DirEntry)). under (out-PathElements p).file x) some in
    each_of ds (right (unwrap_or (out-PathElements p).file []) (in_directories ds) (subst SizesFit e fit))

-- and the other way round

held_all : (x : Option PathElements) → ForSome x PathSizesFit → SizesFit (unwrap_or (option_map path_files x) [])
held_all None fit = All-nil SizeFits
held_all (Some p) fit = fit p refl

pub directory_fits : (d : DirEntry) → ForSome (out-DirEntry d).path_elements PathSizesFit → DirectorySizesFit d
directory_fits d fit = subst SizesFit (sym (directory_folded d)) (held_all (out-DirEntry d).path_elements fit)

some_files : (x : Option (List FileEntry)) → ForSome x SizesFit → SizesFit (unwrap_or x [])
some_files None fit = All-nil SizeFits
some_files (Some fs) fit = fit fs refl

some_directories : (x : Option (List DirEntry)) → ForSome x (All DirectorySizesFit)
    → SizesFit (flat_map (λ fs. fs) (unwrap_or (option_map (λ (ds : List DirEntry). map_list directory_files ds) x) []))
some_directories None fit = All-nil SizeFits
some_directories (Some ds) fit = each_to ds (fit ds refl)

pub path_fits : (p : PathElements) → ForSome (out-PathElements p).file SizesFit → ForSome (out-PathElements p).directory (All DirectorySizesFit) → PathSizesFit p
path_fits p files directories =
    subst SizesFit (sym (path_folded p)) (All-append SizeFits (unwrap_or (out-PathElements p).file []) _ (some_files (out-PathElements p).file files) (some_directories (out-PathElements p).directory directories))
