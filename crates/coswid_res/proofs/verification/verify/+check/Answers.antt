-- The verdicts on the files of one directory more stand after those that there are, as do those on
-- the files of the directories that something holds; where one is refused, so are all.
use Rattle.std.proofs.Common.{◌<◌, ◌∙◌, ℕ, List, Ok, Err, length, rules, subst}
use Rattle.std.specs.List.{flat_map}
use Rattle.std.proofs.lemmas.Result.{on_ok_weaker}
use Rattle.coswid_res.specs.declared.resources.directory.DirEntry.{DirEntry}
use Rattle.coswid_res.specs.Listing.{directory_listing, path_listing}
use Rattle.coswid_res.specs.Verify.{AddsVerdicts, Reads}
use Rattle.coswid_res.proofs.FileParts.{reads_more, reads_refused, verdicts_more}
use Rattle.coswid_res.proofs.FileReads.{handed_on}
use Rattle.coswid_res.proofs.PathParts.{path_added, path_read, path_refused}
use Rattle.coswid_res.proofs.verification.verify.+check.Goals as goal

pub check_directories-loop-directory-preserved : goal.check_directories-loop-directory-preserved
check_directories-loop-directory-preserved g t c =
    let of = λ (d : DirEntry). directory_listing d c.args.around.now in
    let items = c.as_slice-directory-items.result.now in
    let d = c.directory-item.result in
    let within : c.loop-directory.directory-index < length items = search rules in
    let here = c.loop-directory.invariant.around in
    let adds = subst (λ (around : List ℕ). AddsVerdicts (g.F.Files.contents c.loop-directory.files) (directory_listing d around) c.loop-directory.verdicts c.check_directory.new.verdicts) here c.in_ok-check_directory.ensures.appended in
    let reads = subst (λ (around : List ℕ). Reads (directory_listing d around) (Ok c.in_ok-check_directory.field-0) (g.F.Files.reads c.loop-directory.files) (g.F.Files.reads c.check_directory.new.files)) here c.in_ok-check_directory.ensures.reads in
    record {
      verdicts = verdicts_more of items c.loop-directory.directory-index d within c.directory-item.is _ _ _ _ _ c.loop-directory.invariant.contents c.loop-directory.invariant.verdicts adds;
      contents = c.in_ok-check_directory.ensures.contents ∙ c.loop-directory.invariant.contents;
      faults = c.in_ok-check_directory.ensures.cause.cause ∙ c.loop-directory.invariant.faults;
      reads = reads_more of items c.loop-directory.directory-index d within c.directory-item.is _ _ _ _ c.loop-directory.invariant.reads c.in_ok-check_directory.field-0 reads;
      around = c.in_ok-check_directory.ensures.around ∙ here;
    }

pub check_directories-returns-in_err-check_directory-clause-reads : goal.check_directories-returns-in_err-check_directory-clause-reads
check_directories-returns-in_err-check_directory-clause-reads g t c =
    let of = λ (d : DirEntry). directory_listing d c.args.around.now in
    let items = c.as_slice-directory-items.result.now in
    let d = c.directory-item.result in
    let within : c.loop-directory.directory-index < length items = search rules in
    let refusal = c.in_err-check_directory.field-0.0 in
    let before = g.F.Files.reads c.args.files.now in
    let after = g.F.Files.reads c.check_directory.new.files in
    let reads = subst (λ (around : List ℕ). Reads {A = Unit {0}} (directory_listing d around) (Err refusal) (g.F.Files.reads c.loop-directory.files) after) c.loop-directory.invariant.around c.in_err-check_directory.ensures.reads in
    handed_on (Unit {0}) (flat_map of c.args.directories.now) before after refusal c.from_residual.result c.from_residual.ensures.1
    (subst (λ (ds : List DirEntry). Reads {A = Unit {0}} (flat_map of ds) (Err refusal) before after) c.as_slice-directory-items.ensures.items
    (reads_refused of items c.loop-directory.directory-index d within c.directory-item.is (Unit {0}) before _ after c.loop-directory.invariant.reads (Unit {0}) refusal reads))

pub check_path-returns-in_err-check_files-clause-reads : goal.check_path-returns-in_err-check_files-clause-reads
check_path-returns-in_err-check_files-clause-reads g t c =
    let refusal = c.in_err-check_files.field-0.0 in
    handed_on (Unit {0}) (path_listing c.args.held.now c.args.around.now) _ _ refusal c.from_residual.result c.from_residual.ensures.1
    (path_refused c.args.held.now c.args.around.now (Unit {0}) (Unit {0}) _ _ refusal c.in_err-check_files.ensures.reads)

pub check_path-returns-in-Some-clause-appended : goal.check_path-returns-in-Some-clause-appended
check_path-returns-in-Some-clause-appended g t c =
    on_ok_weaker c.check_directories.result
    (path_added c.args.held.now c.args.around.now c.in-Some.directories c.in-Some.is _ _ _ _ _ c.in_ok-check_files.ensures.contents c.in_ok-check_files.ensures.appended)
    c.check_directories.ensures.appended

pub check_path-returns-in-Some-clause-reads : goal.check_path-returns-in-Some-clause-reads
check_path-returns-in-Some-clause-reads g t c =
    path_read c.args.held.now c.args.around.now c.in-Some.directories c.in-Some.is (Unit {0}) _ _ _ c.in_ok-check_files.field-0 c.in_ok-check_files.ensures.reads c.check_directories.result c.check_directories.ensures.reads
