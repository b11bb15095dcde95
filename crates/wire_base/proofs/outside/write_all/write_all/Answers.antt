use Rattle.std.proofs.Common.{◌∙◌}
use Rattle.wire_base.proofs.Streams.{wrote_more}
use Rattle.wire_base.proofs.outside.write_all.write_all.Goals as goal

pub loop-rest-preserved : goal.loop-rest-preserved
loop-rest-preserved g c = record {
  wrote = rw c.split_at.ensures.back (wrote_more _ _ _ c.args.text.now c.loop-rest.rest.now c.in_ok-count.count c.loop-rest.invariant.wrote c.in_ok-count.ensures.writes);
  calm = c.in_ok-count.ensures.cause.cause ∙ c.loop-rest.invariant.calm;
}
