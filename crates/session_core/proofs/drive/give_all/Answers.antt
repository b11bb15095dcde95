use Rattle.std.proofs.Common.{◌∙◌, arith}
use Rattle.session_core.proofs.Driving.{gave_more, rest_length}
use Rattle.session_core.proofs.drive.give_all.Goals as goal

pub loop-count-preserved : goal.loop-count-preserved
loop-count-preserved g c = record {
  within = omega (arith, c.in_ok-more.ensures.within, c.loop-count-test.true, rest_length c.args.text.now c.loop-count.count);
  gave = gave_more _ _ _ c.args.text.now c.loop-count.count c.in_ok-more.more c.loop-count.invariant.gave c.in_ok-more.ensures.gives;
  taken = c.in_ok-more.ensures.taken ∙ c.loop-count.invariant.taken;
  calm = c.in_ok-more.ensures.cause.cause ∙ c.loop-count.invariant.calm;
}
