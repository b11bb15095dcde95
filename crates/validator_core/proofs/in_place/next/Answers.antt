-- The last identifier is above the others, so no lower number is above all.
use Rattle.std.proofs.Common.{sym}
use Rattle.validator_core.proofs.InPlace.{above_last, below_last}
use Rattle.validator_core.proofs.in_place.next.Goals as goal

pub returns-in-Some : goal.returns-in-Some
returns-in-Some c = record {
  below = below_last c.args.records.now c.requires.rising c.in-Some.record.now (sym c.in-Some.ensures.value);
  least = above_last c.args.records.now c.in-Some.record.now (sym c.in-Some.ensures.value);
}
