-- The verdicts on the files of what holds files and directories, and the reads for them.
use Rattle.std.proofs.Common.{◌≡◌, ℕ, List, [], ◌++◌, Option, Some, Result, Ok, Err, sym, ap, subst}
use Rattle.std.specs.List.{flat_map}
use Rattle.coswid_res.specs.declared.resources.directory.DirEntry.{DirEntry}
use Rattle.coswid_res.specs.declared.resources.directory.PathElements.{PathElements, out-PathElements}
use Rattle.coswid_res.specs.declared.resources.file.FileEntry.{FileEntry}
use Rattle.coswid_res.specs.declared.verification.verdict.Verdict.{Verdict}
use Rattle.coswid_res.specs.declared.verification.verify.VerifyRefused.{VerifyRefused}
use Rattle.coswid_res.specs.Listing.{ListedFile, directories_listing, directory_listing, files_listing, path_listing}
use Rattle.coswid_res.specs.Verify.{AddsVerdicts, Reads}
use Rattle.coswid_res.proofs.FileReads.{all_read, stopped_before, then_read}
use Rattle.coswid_res.proofs.FileVerdicts.{both_added}
use Rattle.coswid_res.proofs.Listings.{path_listed}
use Rattle.wire_base.specs.declared.outside.files.NamedFile.{NamedFile}
use Rattle.wire_base.specs.NamedFile.{Read}

-- Files, and directories in order, in a directory of this path.
module _ (entries : Option (List FileEntry)) (directories : Option (List DirEntry)) (around : List ℕ) (ds : List DirEntry) (some : directories ≡ Some ds) where
  parts : files_listing entries around ++ flat_map (λ (d : DirEntry). directory_listing d around) ds ≡ files_listing entries around ++ directories_listing directories around
  parts = ap (λ (x : Option (List DirEntry)). files_listing entries around ++ directories_listing x around) (sym some)

  pub parts_added : (told here : Option (List NamedFile)) (before now after : List (List ℕ × Verdict)) → here ≡ told → AddsVerdicts told (files_listing entries around) before now → AddsVerdicts here (flat_map (λ (d : DirEntry). directory_listing d around) ds) now after
      → AddsVerdicts told (files_listing entries around ++ directories_listing directories around) before after
  parts_added told here before now after same was adds = subst (λ (fs : List ListedFile). AddsVerdicts told fs before after) parts
      (both_added told here (files_listing entries around) (flat_map (λ (d : DirEntry). directory_listing d around) ds) before now after same was adds)

  pub parts_read : {A : Type 0} (before now after : Option (List Read)) (value : A) → Reads (files_listing entries around) (Ok value) before now → (result : Result A VerifyRefused) → Reads (flat_map (λ (d : DirEntry). directory_listing d around) ds) result now after
      → Reads (files_listing entries around ++ directories_listing directories around) result before after
  parts_read {A} before now after value was result reads = subst (λ (fs : List ListedFile). Reads fs result before after) parts
      (then_read (files_listing entries around) (flat_map (λ (d : DirEntry). directory_listing d around) ds) before now A after (all_read A (files_listing entries around) before now value was) result reads)

module _ (p : PathElements) (around : List ℕ) where
  pub path_refused : (A B : Type 0) (before after : Option (List Read)) (refusal : VerifyRefused) → Reads {A = A} (files_listing (out-PathElements p).file around) (Err refusal) before after → Reads {A = B} (path_listing p around) (Err refusal) before after
  path_refused A B before after refusal reads = subst (λ (fs : List ListedFile). Reads {A = B} fs (Err refusal) before after) (sym (path_listed p around))
      (stopped_before (files_listing (out-PathElements p).file around) (directories_listing (out-PathElements p).directory around) before after A B refusal reads)

  module _ (ds : List DirEntry) (some : (out-PathElements p).directory ≡ Some ds) where
    pub path_added : (told here : Option (List NamedFile)) (before now after : List (List ℕ × Verdict)) → here ≡ told → AddsVerdicts told (files_listing (out-PathElements p).file around) before now → AddsVerdicts here (flat_map (λ (d : DirEntry). directory_listing d around) ds) now after
        → AddsVerdicts told (path_listing p around) before after
    path_added told here before now after same was adds = subst (λ (fs : List ListedFile). AddsVerdicts told fs before after) (sym (path_listed p around))
        (parts_added (out-PathElements p).file (out-PathElements p).directory around ds some told here before now after same was adds)

    pub path_read : (A : Type 0) (before now after : Option (List Read)) (value : A) → Reads (files_listing (out-PathElements p).file around) (Ok value) before now → (result : Result A VerifyRefused) → Reads (flat_map (λ (d : DirEntry). directory_listing d around) ds) result now after
        → Reads (path_listing p around) result before after
    path_read A before now after value was result reads = subst (λ (fs : List ListedFile). Reads fs result before after) (sym (path_listed p around))
        (parts_read (out-PathElements p).file (out-PathElements p).directory around ds some before now after value was result reads)
