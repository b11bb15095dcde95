-- The verdicts on the files of the directories stand after those on the files beside them.
use Rattle.std.proofs.lemmas.Result.{on_ok_weaker}
use Rattle.coswid_res.proofs.PathParts.{parts_added, parts_read}
use Rattle.coswid_res.proofs.verification.verify.check_held.Goals as goal

pub returns-in-Some-clause-appended : goal.returns-in-Some-clause-appended
returns-in-Some-clause-appended g c =
    on_ok_weaker c.check_directories.result
    (parts_added c.args.payload.now.file c.args.payload.now.directory c.args.around.now c.in-Some.directories c.in-Some.is _ _ _ _ _ c.in_ok-check_files.ensures.contents c.in_ok-check_files.ensures.appended)
    c.check_directories.ensures.appended

pub returns-in-Some-clause-reads : goal.returns-in-Some-clause-reads
returns-in-Some-clause-reads g c =
    parts_read c.args.payload.now.file c.args.payload.now.directory c.args.around.now c.in-Some.directories c.in-Some.is {A = Unit {0}} _ _ _ c.in_ok-check_files.field-0 c.in_ok-check_files.ensures.reads c.check_directories.result c.check_directories.ensures.reads
