-- The lines of the door at a place follow those of the doors before it.
use Rattle.std.proofs.Common.{arith, false, get_or}
use Rattle.std.proofs.lemmas.List.{get_or_default}
use Rattle.pool_text.specs.Text.{door_text}
use Rattle.pool_text.proofs.Numbering.{pair_put, pairs_put}
use Rattle.pool_text.proofs.collect.put_doors.Goals as goal

pub loop-place-preserved : goal.loop-place-preserved
loop-place-preserved c =
    let ends = c.args.ends.now in
    let door_failed = c.args.door_failed.now in
    let place = c.loop-place.place in
    let failed = get_or door_failed place false in
    pair_put door_text ends door_failed place c.index-ends-place.result failed c.loop-place.out c.put_door.new.out _ (omega (arith, c.loop-place-test.true, c.min-count.ensures))
    c.index-ends-place.is (get_or_default door_failed place false failed (omega (arith, c.loop-place-test.true, c.min-count.ensures)))
    c.loop-place.invariant c.in_ok-put_door.ensures.appended

pub returns : goal.returns
returns c = record {
  appended = pairs_put door_text c.args.ends.now c.args.door_failed.now c.loop-place.place c.loop-place.out _ (omega (arith, c.loop-place-test.false, c.min-count.ensures))
      c.loop-place.invariant;
}
