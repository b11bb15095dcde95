-- Its files stand in no directory that has a path.
use Rattle.std.proofs.Common.{ℕ, List, OnOk, subst}
use Rattle.coswid_res.specs.Listing.{listed_in}
use Rattle.coswid_res.specs.Verify.{AddsVerdicts, Reads}
use Rattle.coswid_res.proofs.verification.verify.check_payload.Goals as goal

pub returns-clause-appended : goal.returns-clause-appended
returns-clause-appended g c =
    subst (λ (around : List ℕ). OnOk c.check_held.result (AddsVerdicts (g.F.Files.contents c.args.files.now) (listed_in around c.args.payload.now) c.args.verdicts.now c.check_held.new.verdicts))
    c.new-around.ensures.path c.check_held.ensures.appended

pub returns-clause-reads : goal.returns-clause-reads
returns-clause-reads g c =
    subst (λ (around : List ℕ). Reads (listed_in around c.args.payload.now) c.check_held.result (g.F.Files.reads c.args.files.now) (g.F.Files.reads c.check_held.new.files))
    c.new-around.ensures.path c.check_held.ensures.reads
