-- The verdict is that on what the file holds, and on anything where the file is not read.
use Rattle.std.proofs.Common.{◌≡◌, of_z, rules, sym, to_z, w64}
use Rattle.coswid_res.specs.Listing.{stated_file}
use Rattle.coswid_res.proofs.FileVerdicts.{on_content, on_long, unhashed, unknown}
use Rattle.coswid_res.proofs.verification.verdict.verdict_on.Goals as goal

pub returns-in_default-clause-verdict : goal.returns-in_default-clause-verdict
returns-in_default-clause-verdict g c = unhashed (g.F.Files.contents c.args.files.now) (stated_file c.args.path.now c.args.file.now) c.in_default.is

pub returns-in_default-from_number-clause-verdict : goal.returns-in_default-from_number-clause-verdict
returns-in_default-from_number-clause-verdict g c =
    let same : to_z w64 (of_z w64 c.in-Some.hash.algorithm) ≡ c.in-Some.hash.algorithm = search rules in
    unknown (g.F.Files.contents c.args.files.now) (stated_file c.args.path.now c.args.file.now) c.in-Some.hash _ c.in-Some.is same (sym c.in_default-from_number.ensures.algorithm)

pub returns-in-Content-clause-verdict : goal.returns-in-Content-clause-verdict
returns-in-Content-clause-verdict g c =
    let same : to_z w64 (of_z w64 c.in-Some.hash.algorithm) ≡ c.in-Some.hash.algorithm = search rules in
    on_content (g.F.Files.contents c.args.files.now) (stated_file c.args.path.now c.args.file.now) c.in-Some.hash c.in-Some-from_number.algorithm _ c.in-Some.is same (sym c.in-Some-from_number.ensures.algorithm)
    c.compared.result c.in-Content.octets c.as_slice.result.now c.as_slice.ensures.items c.compared.ensures.verdict c.in-Content.ensures.answer.1

pub returns-in-TooLong-clause-verdict : goal.returns-in-TooLong-clause-verdict
returns-in-TooLong-clause-verdict g c =
    let same : to_z w64 (of_z w64 c.in-Some.hash.algorithm) ≡ c.in-Some.hash.algorithm = search rules in
    on_long (stated_file c.args.path.now c.args.file.now) c.in-Some.hash c.in-Some-from_number.algorithm _ c.in-TooLong.len c.in-Some.is same (sym c.in-Some-from_number.ensures.algorithm)
    c.in-TooLong.ensures.answer.0 (g.F.Files.contents c.args.files.now) c.in-TooLong.ensures.answer.1
