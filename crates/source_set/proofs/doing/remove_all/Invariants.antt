-- The first records were deleted, and their keys are gone.
use Rattle.std.proofs.Common.{◌≡◌, take, true}
use Rattle.source_set.specs.Deeds.{deletions}
use Rattle.source_set.specs.Doing.{Works}
use Rattle.source_set.specs.Keys.{without_all}
use Rattle.source_set.proofs.doing.remove_all.Given as goal

abbrev pub invariant-loop-held : goal.invariant-loop-held
invariant-loop-held g l = record {
  works : Works g.D.Desk.stands g.D.Desk.went l.stamp l.fn.desk l.desk l.fn.swept l.swept (deletions (take l.held-index l.all));
  keys : l.keys ≡ without_all (take l.held-index l.all) l.fn.keys;
  takes : g.D.Desk.takes l.desk ≡ true;
}
