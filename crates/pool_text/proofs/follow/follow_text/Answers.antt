-- The lines of the endpoint at a place follow those of the endpoints before it.
use Rattle.std.proofs.Common.{arith, false, get_or}
use Rattle.std.proofs.lemmas.List.{get_or_default}
use Rattle.pool_text.specs.Text.{endpoint_text}
use Rattle.pool_text.proofs.Numbering.{triple_put, triples_put}
use Rattle.pool_text.proofs.follow.follow_text.Goals as goal

pub loop-place-preserved : goal.loop-place-preserved
loop-place-preserved c =
    let door_failed = c.args.door_failed.now in
    let place = c.loop-place.place in
    let failed = get_or door_failed place false in
    triple_put endpoint_text c.args.ends.now door_failed c.args.mirrors.now place c.index-ends-place.result failed c.index-mirrors-place.result c.loop-place.out c.put_endpoint.new.out _
    (omega (arith, c.loop-place-test.true, c.min-doors.ensures, c.min-place-end.ensures))
    c.index-ends-place.is (get_or_default door_failed place false failed (omega (arith, c.loop-place-test.true, c.min-doors.ensures, c.min-place-end.ensures))) c.index-mirrors-place.is
    c.loop-place.invariant c.in_ok-put_endpoint.ensures.appended

pub returns : goal.returns
returns c = record {
  text = triples_put endpoint_text c.args.ends.now c.args.door_failed.now c.args.mirrors.now c.loop-place.place c.loop-place.out _
      (omega (arith, c.loop-place-test.false, c.min-doors.ensures, c.min-place-end.ensures)) c.loop-place.invariant;
}
