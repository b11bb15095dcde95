-- Each construct takes the item as the machine does.
use Rattle.std.proofs.Common.{ap, sym, ◌∙◌}
use Rattle.cbor_det.specs.declared.frame.Frame.{Frame}
use Rattle.cbor_det.specs.Standing.{inside}
use Rattle.cbor_det.specs.Machine.{item_ended}
use Rattle.cbor_det.specs.View.{view}
use Rattle.cbor_det.proofs.Closing.{chunk_refused, content_ends}
use Rattle.cbor_det.proofs.nesting.absorb_item.Goals as goal

pub returns-in-Chunks : goal.returns-in-Chunks
returns-in-Chunks c = record {
  taken = λ p. chunk_refused c.in-Chunks.at c.in-Chunks.kind c.in-Chunks.joined p c.args.at (view c.args.item)
      ∙ ap (λ (f : Frame). item_ended (inside p f) c.args.at (view c.args.item)) (sym c.in-Chunks.is);
}

pub returns-in_ok-new-in-Content : goal.returns-in_ok-new-in-Content
returns-in_ok-new-in-Content c = record {
  taken = λ p. content_ends c.in-Content.began c.in-Content.number c.in_ok-new-in-Content.field-0 c.args.item p c.args.at c.in_ok-new-in-Content.ensures.value
      ∙ ap (λ (f : Frame). item_ended (inside p f) c.args.at (view c.args.item)) (sym c.in-Content.is);
}
