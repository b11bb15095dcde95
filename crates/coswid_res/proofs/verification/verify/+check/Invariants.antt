-- The files of the directories before have their verdicts: they were read, and no read failed.
use Rattle.std.proofs.Common.{◌≡◌, take}
use Rattle.std.specs.List.{flat_map}
use Rattle.coswid_res.specs.Listing.{directory_listing}
use Rattle.coswid_res.specs.Verify.{AddsVerdicts}
use Rattle.coswid_res.proofs.FileReads.{AllRead}
use Rattle.coswid_res.proofs.verification.verify.+check.Given as goal

abbrev pub invariant-check_directories-loop-directory : goal.invariant-check_directories-loop-directory
invariant-check_directories-loop-directory g l = record {
  verdicts : AddsVerdicts (g.F.Files.contents l.fn.files) (flat_map (λ d. directory_listing d l.fn.around) (take l.directory-index l.directory-items)) l.fn.verdicts l.verdicts;
  contents : g.F.Files.contents l.files ≡ g.F.Files.contents l.fn.files;
  faults : g.F.Files.faults l.files ≡ g.F.Files.faults l.fn.files;
  reads : AllRead (flat_map (λ d. directory_listing d l.fn.around) (take l.directory-index l.directory-items)) (g.F.Files.reads l.fn.files) (g.F.Files.reads l.files);
  around : l.around ≡ l.fn.around;
}
