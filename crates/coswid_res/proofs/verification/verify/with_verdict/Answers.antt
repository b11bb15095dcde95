-- The read for the verdict on one file is that of its path alone.
use Rattle.std.proofs.Common.{◌∙◌, ℕ, List, [], ◌∷◌, Ok, Err, ap, subst}
use Rattle.coswid_res.specs.declared.verification.verdict.Verdict.{Verdict}
use Rattle.coswid_res.specs.declared.verification.verify.VerifyRefused.TheVariants as refused
use Rattle.coswid_res.specs.Listing.{stated_file}
use Rattle.coswid_res.specs.Verify.{Reads}
use Rattle.coswid_res.proofs.FileReads.{one_answered, one_failed}
use Rattle.coswid_res.proofs.verification.verify.with_verdict.Goals as goal

pub returns-in-Ok-clause-reads : goal.returns-in-Ok-clause-reads
returns-in-Ok-clause-reads g c =
    let line : List ℕ × Verdict = (c.args.path, c.in-Ok.verdict) in
    subst (λ (path : List ℕ). Reads (stated_file path c.args.file.now ∷ []) (Ok line) (g.F.Files.reads c.args.files.now) (g.F.Files.reads c.verdict_on.new.files)) c.as_str.ensures.octets
    (one_answered (List ℕ × Verdict) (stated_file c.as_str.result.now c.args.file.now) _ _ c.verdict_on.result c.verdict_on.ensures.reads line c.in-Ok.verdict c.in-Ok.is)

pub returns-in-Err-Fault-clause-reads : goal.returns-in-Err-Fault-clause-reads
returns-in-Err-Fault-clause-reads g c =
    subst (λ (path : List ℕ). Reads {A = List ℕ × Verdict} (stated_file path c.args.file.now ∷ []) (Err (refused.FileFault path)) (g.F.Files.reads c.args.files.now) (g.F.Files.reads c.verdict_on.new.files)) c.as_str.ensures.octets
    (one_failed (List ℕ × Verdict) (stated_file c.as_str.result.now c.args.file.now) _ _ c.verdict_on.result c.verdict_on.ensures.reads c.verdict_on.ensures.read (c.in-Err-Fault.is ∙ ap (λ e. Err e) c.in-Err-Fault.field-0-is))
