-- What is read of a proper item states sizes that an item holds.
use Rattle.std.proofs.Common.{◌<◌, ◌^◌, ℕ, List, [], ◌∷◌, Option, Some, refl, subst}
use Rattle.std.proofs.lemmas.List.Elements.{All-nil, All-cons}
use Rattle.std.specs.List.{All}
use Rattle.std.specs.Option.{ForSome}
use Rattle.std.specs.Prelude.{IfSome}
use Rattle.cbor_det.specs.Lookup.{value_under}
use Rattle.cbor_det.specs.Proper.{IsProper, AreProper, ArePairsProper}
use Rattle.cbor_det.specs.Term.{Term, Terms, Pairs, array, map, no_terms, term}
use Rattle.coswid_res.specs.declared.resources.directory.DirEntry.{DirEntry, out-DirEntry}
use Rattle.coswid_res.specs.declared.resources.directory.PathElements.{PathElements, out-PathElements}
use Rattle.coswid_res.specs.declared.resources.evidence.Evidence.{Evidence}
use Rattle.coswid_res.specs.declared.resources.file.FileEntry.{FileEntry}
use Rattle.coswid_res.specs.declared.resources.payload.Payload.{Payload}
use Rattle.coswid_res.specs.Directories.{DirectoryPairs, directory, PathUnder, no_path, path, PathPairs, path_elements, DirectoriesUnder, no_directories, alone, several, EachDirectory, no_more, one_more, DirectoryMap}
use Rattle.coswid_res.specs.Columns.{KeysOf, MapOf}
use Rattle.coswid_res.specs.Files.{file_table}
use Rattle.coswid_res.specs.Keys as keys
use Rattle.coswid_res.specs.Resources.{payload_table, PayloadMap, evidence_table, EvidenceMap}
use Rattle.coswid_res.specs.Sizes.{SizeFits, SizesFit, DirectorySizesFit, PathSizesFit, PayloadSizesFit, EvidenceSizesFit}
use Rattle.coswid_res.specs.Words.{Agree, Each, IsMap, OneOrMore, Optional, OptionalAt, Unsigned}
use Rattle.coswid_res.proofs.Sizes.{directory_fits, path_fits}
use Rattle.coswid_tag.specs.declared.tag.Tag.{Tag}
use Rattle.coswid_codec.specs.Forms.{tag_table}
use Rattle.coswid_codec.specs.SizesFit as whole
use Rattle.coswid_codec.proofs.Facts.{there, under_proper}

-- Values that fit wherever they are read of a proper item.
module _ {A : Type 0} (Is : A → Term → Type 0) (Fits : A → Type 0) (one : (v : A) (t : Term) → Is v t → IsProper t → Fits v) where
  -- under a key
  pub some_fits : (k : ℕ) (x : Option A) (ps : Pairs) → OptionalAt k Is x ps → ArePairsProper ps → ForSome x Fits
  some_fits k x ps is proper v some =
      let P : Option A → Type 0 = λ y. Agree Is y (value_under k ps) in
      let at = there Is v (value_under k ps) (subst P some is) in
      one v at.0 at.2 (under_proper k ps at.0 at.1 proper)

  each_fits : (vs : List A) (ts : Terms) → Each Is vs ts → AreProper ts → All Fits vs
  each_fits [] no_terms each proper = All-nil Fits
  each_fits (v ∷ vs) (term t ts) each proper = All-cons Fits v vs (one v t each.0 proper.0) (each_fits vs ts each.1 proper.1)
  each_fits vs ts each proper = absurd each

  lone : (v : A) (t : Term) → Is v t → IsProper t → All Fits (v ∷ [])
  lone v t is proper = All-cons Fits v [] (one v t is proper) (All-nil Fits)

  -- in an array, or alone
  pub several_fit : (vs : List A) (t : Term) → OneOrMore Is vs t → IsProper t → All Fits vs
  several_fit vs (array ts) is proper = each_fits vs ts is.1 proper
  several_fit (v ∷ []) t is proper = lone v t is proper
  several_fit vs t is proper = absurd is

-- Where the values of a map fit that is proper, those of an item that is one do.
map_fits : {A : Type 0} (Are : A → Pairs → Type 0) (Fits : A → Type 0) → ((v : A) (ps : Pairs) → Are v ps → ArePairsProper ps → Fits v)
    → (v : A) (t : Term) → IsMap (Are v) t → IsProper t → Fits v
map_fits Are Fits one v (map ps) is proper = one v ps is proper.1
map_fits Are Fits one v t is proper = absurd is

size_fits : (n : ℕ) (t : Term) → Unsigned n t → IsProper t → n < 2 ^ 63
size_fits n t is proper = subst IsProper is proper

file_fits : (f : FileEntry) (ps : Pairs) → KeysOf file_table f ps → ArePairsProper ps → SizeFits f
file_fits f ps is proper = some_fits Unsigned (λ (n : ℕ). n < 2 ^ 63) size_fits 20 f.size ps is.keys.1.0 proper

files_fit : (fs : List FileEntry) (t : Term) → OneOrMore (MapOf file_table) fs t → IsProper t → SizesFit fs
files_fit = several_fit (MapOf file_table) SizeFits (map_fits (KeysOf file_table) SizeFits file_fits)

one_fits : {A : Type 0} (Fits : A → Type 0) (v : A) → Fits v → ForSome (Some v) Fits
one_fits {A} Fits v fit w some =
    let P : Option A → Type 0 = λ x. IfSome x Fits in
    subst P some fit

-- By what is read, from the outside in.
mutual
  directory_read : (d : DirEntry) (ps : Pairs) → DirectoryPairs d ps → ArePairsProper ps → DirectorySizesFit d
  directory_read d ps (directory e qs keys inside) proper =
      directory_fits e (path_under (out-DirEntry e).path_elements (value_under 26 qs) inside (λ t some. under_proper 26 qs t some proper))

  path_under : (x : Option PathElements) (o : Option Term) → PathUnder x o → ForSome o IsProper → ForSome x PathSizesFit
  path_under x o no_path proper = λ p some. absurd cc
  path_under x o (path q ps is) proper = one_fits PathSizesFit q (path_read q ps is (proper (map ps) refl).1)

  path_read : (p : PathElements) (ps : Pairs) → PathPairs p ps → ArePairsProper ps → PathSizesFit p
  path_read p ps (path_elements q qs keys inside) proper =
      path_fits q (some_fits (OneOrMore (MapOf file_table)) SizesFit files_fit 17 (out-PathElements q).file qs keys.file proper)
      (directories_under (out-PathElements q).directory (value_under 16 qs) inside (λ t some. under_proper 16 qs t some proper))

  directories_under : (x : Option (List DirEntry)) (o : Option Term) → DirectoriesUnder x o → ForSome o IsProper → ForSome x (All DirectorySizesFit)
  directories_under x o no_directories proper = λ ds some. absurd cc
  directories_under x o (alone d ps is) proper =
      one_fits (All DirectorySizesFit) (d ∷ []) (All-cons DirectorySizesFit d [] (directory_read d ps is (proper (map ps) refl).1) (All-nil DirectorySizesFit))
  directories_under x o (several ds ts some each) proper = one_fits (All DirectorySizesFit) ds (each_read ds ts each (proper (array ts) refl))

  each_read : (ds : List DirEntry) (ts : Terms) → EachDirectory ds ts → AreProper ts → All DirectorySizesFit ds
  each_read ds ts no_more proper = All-nil DirectorySizesFit
  each_read ds ts (one_more d es ps us is rest) proper = All-cons DirectorySizesFit d es (directory_read d ps is proper.0.1) (each_read es us rest proper.1)

directories_fit : (ds : List DirEntry) (t : Term) → OneOrMore DirectoryMap ds t → IsProper t → All DirectorySizesFit ds
directories_fit = several_fit DirectoryMap DirectorySizesFit (map_fits DirectoryPairs DirectorySizesFit directory_read)

payload_fits : (p : Payload) (ps : Pairs) → KeysOf payload_table p ps → ArePairsProper ps → PayloadSizesFit p
payload_fits p ps is proper = record {
  directory = some_fits (OneOrMore DirectoryMap) (All DirectorySizesFit) directories_fit 16 p.directory ps is.keys.0 proper;
  file = some_fits (OneOrMore (MapOf file_table)) SizesFit files_fit 17 p.file ps is.keys.1.0 proper;
}

evidence_fits : (e : Evidence) (ps : Pairs) → KeysOf evidence_table e ps → ArePairsProper ps → EvidenceSizesFit e
evidence_fits e ps is proper = record {
  directory = some_fits (OneOrMore DirectoryMap) (All DirectorySizesFit) directories_fit 16 e.directory ps is.keys.0 proper;
  file = some_fits (OneOrMore (MapOf file_table)) SizesFit files_fit 17 e.file ps is.keys.1.0 proper;
}

pub evidence_under : (g : Tag) (ps : Pairs) → KeysOf tag_table g ps → Optional keys.evidence EvidenceMap g.evidence ps
evidence_under g ps is = is.keys.1.1.1.0

pub payload_under : (g : Tag) (ps : Pairs) → KeysOf tag_table g ps → Optional keys.payload PayloadMap g.payload ps
payload_under g ps is = is.keys.1.1.1.1.1.1.0

tag_fits : (g : Tag) (ps : Pairs) → KeysOf tag_table g ps → ArePairsProper ps → whole.SizesFit g
tag_fits g ps is proper = record {
  payload = some_fits PayloadMap PayloadSizesFit (map_fits (KeysOf payload_table) PayloadSizesFit payload_fits) 6 g.payload ps (payload_under g ps is) proper;
  evidence = some_fits EvidenceMap EvidenceSizesFit (map_fits (KeysOf evidence_table) EvidenceSizesFit evidence_fits) 3 g.evidence ps (evidence_under g ps is) proper;
}

-- A tag that is read from a proper item.
pub read_fits : (g : Tag) (t : Term) → MapOf tag_table g t → IsProper t → whole.SizesFit g
read_fits = map_fits (KeysOf tag_table) whole.SizesFit tag_fits
