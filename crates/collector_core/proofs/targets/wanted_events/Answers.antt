use Rattle.std.proofs.Common.{◌∙◌, arith, refl}
use Rattle.collector_core.proofs.Choosing.{chosen_all, chosen_more, few_events}
use Rattle.collector_core.proofs.targets.wanted_events.Goals as goal

pub loop-eid-preserved : goal.loop-eid-preserved
loop-eid-preserved c =
    c.in_ok-choose.ensures.chosen ∙ chosen_more c.args.log.now c.last.ensures.log c.args.targets.now c.args.earliest c.requires.kept c.loop-eid.eid _ _ c.loop-eid.auto.eid c.loop-eid.invariant refl

pub returns-clause-wanted : goal.returns-clause-wanted
returns-clause-wanted c = chosen_all c.args.log.now c.last.ensures.log c.args.targets.now c.args.earliest c.requires.kept c.loop-eid.eid _ (omega (arith, c.loop-eid-test.false, c.last.ensures.last)) c.loop-eid.invariant

pub returns-clause-few : goal.returns-clause-few
returns-clause-few c = few_events c.args.log.now c.last.ensures.log c.args.targets.now c.args.earliest c.requires.kept _ (returns-clause-wanted c)
