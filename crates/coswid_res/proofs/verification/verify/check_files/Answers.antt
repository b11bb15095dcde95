-- The verdict on one file more stands after those that there are; where it is refused, so are all.
use Rattle.std.proofs.Common.{◌<◌, ◌∙◌, List, [], ◌∷◌, Err, length, rules, subst}
use Rattle.coswid_res.specs.declared.resources.file.FileEntry.{FileEntry}
use Rattle.coswid_res.specs.Listing.{ListedFile, files_listing, listed_file}
use Rattle.coswid_res.specs.Verify.{Reads}
use Rattle.coswid_res.proofs.FileParts.{reads_more, reads_refused, verdicts_more}
use Rattle.coswid_res.proofs.FileReads.{handed_on}
use Rattle.coswid_res.proofs.Listings.{files_of_each}
use Rattle.coswid_res.proofs.verification.verify.check_files.Goals as goal

pub loop-file-preserved : goal.loop-file-preserved
loop-file-preserved g c =
    let of = λ (f : FileEntry). listed_file c.args.around.now f ∷ [] in
    let items = c.as_slice-file-items.result.now in
    let within : c.loop-file.file-index < length items = search rules in
    record {
      verdicts = verdicts_more of items c.loop-file.file-index c.file-item.result within c.file-item.is _ _ _ _ _ c.loop-file.invariant.contents c.loop-file.invariant.verdicts c.in_ok-check_file.ensures.appended;
      contents = c.in_ok-check_file.ensures.contents ∙ c.loop-file.invariant.contents;
      faults = c.in_ok-check_file.ensures.cause.cause ∙ c.loop-file.invariant.faults;
      reads = reads_more of items c.loop-file.file-index c.file-item.result within c.file-item.is _ _ _ _ c.loop-file.invariant.reads c.in_ok-check_file.field-0 c.in_ok-check_file.ensures.reads;
    }

pub returns-in_err-check_file-clause-reads : goal.returns-in_err-check_file-clause-reads
returns-in_err-check_file-clause-reads g c =
    let of = λ (f : FileEntry). listed_file c.args.around.now f ∷ [] in
    let items = c.as_slice-file-items.result.now in
    let within : c.loop-file.file-index < length items = search rules in
    let refusal = c.in_err-check_file.field-0.0 in
    handed_on (Unit {0}) (files_listing c.args.entries.now c.args.around.now) _ _ refusal c.from_residual.result c.from_residual.ensures.1
    (subst (λ (fs : List ListedFile). Reads {A = Unit {0}} fs (Err refusal) (g.F.Files.reads c.args.files.now) (g.F.Files.reads c.check_file.new.files))
    (files_of_each c.args.around.now c.args.entries.now c.in-Some.entries items c.in-Some.is c.as_slice-file-items.ensures.items)
    (reads_refused of items c.loop-file.file-index c.file-item.result within c.file-item.is (Unit {0}) _ _ _ c.loop-file.invariant.reads (Unit {0}) refusal c.in_err-check_file.ensures.reads))
