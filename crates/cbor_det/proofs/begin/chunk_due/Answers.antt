-- The last frame is the innermost.
use Rattle.std.proofs.Common.{sym}
use Rattle.cbor_det.proofs.Begins.{last_due}
use Rattle.cbor_det.proofs.begin.chunk_due.Goals as goal

pub returns-in-Some : goal.returns-in-Some
returns-in-Some c = record { kind = last_due c.args.stack.now c.in-Some.frame.now _ (sym c.in-Some.ensures.value) c.kind_of.ensures.kind }
