-- The verdict on the file is put after those that there are.
use Rattle.std.proofs.Common.{ℕ, List, subst}
use Rattle.coswid_res.specs.Listing.{listed_file, stated_file}
use Rattle.coswid_res.specs.Verify.{IsLine}
use Rattle.coswid_res.proofs.FileVerdicts.{one_added}
use Rattle.coswid_res.proofs.verification.verify.check_file.Goals as goal

pub returns-clause-appended : goal.returns-clause-appended
returns-clause-appended g c =
    let told = g.F.Files.contents c.args.files.now in
    one_added told (listed_file c.args.around.now c.args.file.now) c.args.verdicts.now c.push.new.self c.in_ok-line.line
    (subst (λ (path : List ℕ). IsLine told (stated_file path c.args.file.now) c.in_ok-line.line) c.in_ok-path.ensures.path c.in_ok-line.ensures.verdict)
    c.in_ok-push.ensures.appended
