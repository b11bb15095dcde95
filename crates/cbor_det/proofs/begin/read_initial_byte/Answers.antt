-- Each initial byte, as the machine takes it.
use Rattle.std.proofs.Common.{refl, ◌∙◌}
use Rattle.std.proofs.lemmas.Result.{IfOk-weaker}
use Rattle.cbor_det.specs.Standing.{place}
use Rattle.cbor_det.proofs.Begins.{break_is, float_begun, simple_begun, malformed_begun, fits_at}
use Rattle.cbor_det.proofs.Runs.{due_begins}
use Rattle.cbor_det.proofs.begin.read_initial_byte.Goals as goal

pub start_item-requires-clause-head : goal.start_item-requires-clause-head
start_item-requires-clause-head c = rw c.in-Item.is at (fits_at _ c.initial_of.result c.initial_of.ensures.says)

pub returns-in-Item-clause-stepped : goal.returns-in-Item-clause-stepped
returns-in-Item-clause-stepped c =
    IfOk-weaker c.start_item.result _ _ (λ came begins. begins ∙ due_begins c.args.limits c.args.taken (place c.args.stack.now.items) _ _ c.args.octet c.in-Item.is c.initial_of.ensures.says)
    c.start_item.ensures.begun

pub returns-in-Break-clause-stepped : goal.returns-in-Break-clause-stepped
returns-in-Break-clause-stepped c =
    IfOk-weaker c.read_break.result _ _ (λ came ended. ended ∙ break_is c.args.limits c.args.taken (place c.args.stack.now.items)
    ∙ due_begins c.args.limits c.args.taken (place c.args.stack.now.items) _ _ c.args.octet c.in-Break.is c.initial_of.ensures.says) c.read_break.ensures.ended

pub returns-in-Float-clause-stepped : goal.returns-in-Float-clause-stepped
returns-in-Float-clause-stepped c =
    float_begun c.args.limits c.args.taken _ _ _ _ c.as_slice.ensures.value c.refused.ensures.fault c.in-Float.is
    ∙ due_begins c.args.limits c.args.taken (place c.args.stack.now.items) _ c.initial_of.result c.args.octet refl c.initial_of.ensures.says

pub returns-in-Simple-clause-stepped : goal.returns-in-Simple-clause-stepped
returns-in-Simple-clause-stepped c =
    simple_begun c.args.limits c.args.taken _ _ _ _ c.as_slice-in-Simple.ensures.value c.refused-in-Simple.ensures.fault c.in-Simple.is
    ∙ due_begins c.args.limits c.args.taken (place c.args.stack.now.items) _ c.initial_of.result c.args.octet refl c.initial_of.ensures.says

pub returns-in-Malformed-clause-stepped : goal.returns-in-Malformed-clause-stepped
returns-in-Malformed-clause-stepped c =
    malformed_begun c.args.limits c.args.taken _ _ _ _ c.as_slice-in-Malformed.ensures.value c.refused-in-Malformed.ensures.fault c.in-Malformed.is
    ∙ due_begins c.args.limits c.args.taken (place c.args.stack.now.items) _ c.initial_of.result c.args.octet refl c.initial_of.ensures.says
