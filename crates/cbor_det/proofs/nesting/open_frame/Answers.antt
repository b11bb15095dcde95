-- The construct is the innermost.
use Rattle.cbor_det.proofs.Closing.{pushed_due}
use Rattle.cbor_det.proofs.nesting.open_frame.Goals as goal

pub returns-clause-due : goal.returns-clause-due
returns-clause-due c = pushed_due _ _ c.args.frame c.in_ok-push.ensures.items
