-- The files before have their verdicts: they were read, and no read failed.
use Rattle.std.proofs.Common.{◌≡◌, [], ◌∷◌, take}
use Rattle.std.specs.List.{flat_map}
use Rattle.coswid_res.specs.Listing.{listed_file}
use Rattle.coswid_res.specs.Verify.{AddsVerdicts}
use Rattle.coswid_res.proofs.FileReads.{AllRead}
use Rattle.coswid_res.proofs.verification.verify.check_files.Given as goal

abbrev pub invariant-loop-file : goal.invariant-loop-file
invariant-loop-file g l = record {
  verdicts : AddsVerdicts (g.F.Files.contents l.fn.files) (flat_map (λ f. listed_file l.fn.around f ∷ []) (take l.file-index l.file-items)) l.fn.verdicts l.verdicts;
  contents : g.F.Files.contents l.files ≡ g.F.Files.contents l.fn.files;
  faults : g.F.Files.faults l.files ≡ g.F.Files.faults l.fn.files;
  reads : AllRead (flat_map (λ f. listed_file l.fn.around f ∷ []) (take l.file-index l.file-items)) (g.F.Files.reads l.fn.files) (g.F.Files.reads l.files);
}
