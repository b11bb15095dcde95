-- An initial byte.
use Rattle.std.proofs.Common.{ap, ◌∙◌, refl, get_or, ◌++◌}
use Rattle.std.proofs.lemmas.Result.{IfOk-weaker}
use Rattle.cbor_det.specs.declared.frame.Phase.{Phase}
use Rattle.cbor_det.specs.Machine.{run}
use Rattle.cbor_det.specs.Standing.{place}
use Rattle.cbor_det.specs.Frames.{phase_state}
use Rattle.cbor_det.proofs.Runs.{due_step}
use Rattle.cbor_det.proofs.step.advance.Goals as goal

pub returns-in-Due-clause-ran : goal.returns-in-Due-clause-ran
returns-in-Due-clause-ran c =
    IfOk-weaker c.read_initial_byte.result _ _ (λ came steps. λ rest.
    ap (λ (f : Phase). run c.args.limits c.args.taken (phase_state (place c.args.stack.now.items) f) (c.args.octets.now ++ rest)) c.in-Due.is
    ∙ due_step c.args.limits c.args.taken (place c.args.stack.now.items) _ (get_or c.args.octets.now 0 0) c.args.octets.now rest (rw c.in-Due.is at c.requires.takes) refl steps) c.read_initial_byte.ensures.stepped
