-- The innermost construct ends, if a break ends it.
use Rattle.cbor_det.proofs.Closing.{empty_items}
use Rattle.std.proofs.lemmas.Result.{IfOk-weaker}
use Rattle.cbor_det.proofs.Begins.{top_ends, frame_ends}
use Rattle.cbor_det.proofs.begin.read_break.Goals as goal

pub returns-in-None-clause-ended : goal.returns-in-None-clause-ended
returns-in-None-clause-ended c = top_ends c.args.taken _ (empty_items c.args.stack.now c.args.stack.now.ok.0 c.in-None.ensures.cases.0)

pub returns-in-Some-clause-ended : goal.returns-in-Some-clause-ended
returns-in-Some-clause-ended c =
    IfOk-weaker c.end_frame.result _ _ (λ came ended. frame_ends c.args.taken _ _ c.in-Some.frame _ c.in-Some.ensures.items ended) c.end_frame.ensures.ended
