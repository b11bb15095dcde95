-- The sizes that files state, of which an item holds those below 2^63: RFC 9393, section 2.9.2.
use Rattle.std.specs.Prelude.{◌<◌, ◌^◌, List, [], ◌++◌}
use Rattle.std.specs.List.{All, flat_map}
use Rattle.std.specs.Option.{ForSome, unwrap_or}
use Rattle.coswid_res.specs.declared.resources.directory.DirEntry.{DirEntry, fold-DirEntry}
use Rattle.coswid_res.specs.declared.resources.directory.PathElements.{PathElements, fold-PathElements}
use Rattle.coswid_res.specs.declared.resources.directory.DirEntry.TheOpen as layer
use Rattle.coswid_res.specs.declared.resources.evidence.Evidence.{Evidence}
use Rattle.coswid_res.specs.declared.resources.file.FileEntry.{FileEntry}
use Rattle.coswid_res.specs.declared.resources.payload.Payload.{Payload}

-- The size of a file is below 2^63, where one is stated.
abbrev pub SizeFits : FileEntry → Type 0
SizeFits f = ForSome f.size (λ n. n < 2 ^ 63)

abbrev pub SizesFit : List FileEntry → Type 0
SizesFit = All SizeFits

-- All files in a directory, at any depth, and in what one holds, whose parts stand as their files.
abbrev pub directory_step : layer.DirEntry-F (List FileEntry) (List FileEntry) → List FileEntry
directory_step d = unwrap_or d.path_elements []

abbrev pub path_step : layer.PathElements-F (List FileEntry) (List FileEntry) → List FileEntry
path_step p = unwrap_or p.file [] ++ flat_map (λ files. files) (unwrap_or p.directory [])

abbrev pub directory_files : DirEntry → List FileEntry
directory_files = fold-DirEntry (List FileEntry) (List FileEntry) directory_step path_step

abbrev pub path_files : PathElements → List FileEntry
path_files = fold-PathElements (List FileEntry) (List FileEntry) directory_step path_step

abbrev pub DirectorySizesFit : DirEntry → Type 0
DirectorySizesFit d = SizesFit (directory_files d)

abbrev pub PathSizesFit : PathElements → Type 0
PathSizesFit p = SizesFit (path_files p)

-- The same of a payload and of evidence: of the files in each of its directories, and of its files.
pub record PayloadSizesFit (p : Payload) : Type 0 where
  pub directory : ForSome p.directory (All DirectorySizesFit)
  pub file : ForSome p.file SizesFit

pub record EvidenceSizesFit (e : Evidence) : Type 0 where
  pub directory : ForSome e.directory (All DirectorySizesFit)
  pub file : ForSome e.file SizesFit
