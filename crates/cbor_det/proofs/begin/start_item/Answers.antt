-- An item begins, or a chunk.
use Rattle.std.proofs.Common.{ap, ◌∙◌, List, arith}
use Rattle.std.proofs.lemmas.Result.{IfOk-weaker}
use Rattle.cbor_det.specs.declared.frame.Frame.{Frame}
use Rattle.cbor_det.specs.Standing.{place}
use Rattle.cbor_det.specs.Frames.{chunk_kind}
use Rattle.cbor_det.proofs.Begins.{chunk_opens, chunk_stops, item_opens, item_deep}
use Rattle.cbor_det.proofs.begin.start_item.Goals as goal

pub returns-then-not-is_chunk-clause-begun : goal.returns-then-not-is_chunk-clause-begun
returns-then-not-is_chunk-clause-begun c =
    chunk_stops c.args.limits c.args.taken (place c.args.stack.now.items) c.in-Some.kind c.args.beginning _
    (c.in-Some.ensures.kind ∙ ap (λ (fs : List Frame). chunk_kind (place fs)) c.as_slice.ensures.value) c.is_chunk.ensures.chunk c.if-not-is_chunk.true

pub returns-else-not-is_chunk-clause-begun : goal.returns-else-not-is_chunk-clause-begun
returns-else-not-is_chunk-clause-begun c =
    IfOk-weaker c.start_allowed_item.result _ _ (λ came opens. chunk_opens c.args.limits c.args.taken (place c.args.stack.now.items) c.in-Some.kind c.args.beginning _ _
    (c.in-Some.ensures.kind ∙ ap (λ (fs : List Frame). chunk_kind (place fs)) c.as_slice.ensures.value) c.is_chunk.ensures.chunk c.if-not-is_chunk.false opens) c.start_allowed_item.ensures.opened

pub returns-then-len-from-clause-begun : goal.returns-then-len-from-clause-begun
returns-then-len-from-clause-begun c =
    item_deep c.args.limits c.args.taken c.args.stack.now.items c.args.beginning
    (c.in-None.ensures.kind ∙ ap (λ (fs : List Frame). chunk_kind (place fs)) c.as_slice.ensures.value)
    (omega (arith, c.len.ensures, c.from.ensures, c.args.stack.now.ok.0, c.if-len-from.true))

pub returns-else-len-from-clause-begun : goal.returns-else-len-from-clause-begun
returns-else-len-from-clause-begun c =
    IfOk-weaker c.start_allowed_item-in-None.result _ _ (λ came opens. item_opens c.args.limits c.args.taken c.args.stack.now.items c.args.beginning _
    (c.in-None.ensures.kind ∙ ap (λ (fs : List Frame). chunk_kind (place fs)) c.as_slice.ensures.value)
    (omega (arith, c.len.ensures, c.from.ensures, c.args.stack.now.ok.0, c.if-len-from.false)) opens) c.start_allowed_item-in-None.ensures.opened
