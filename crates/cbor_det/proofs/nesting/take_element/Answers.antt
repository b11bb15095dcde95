-- The array has one element more.
use Rattle.std.proofs.Common.{List, length, ap, sym, ◌∙◌}
use Rattle.cbor_det.specs.declared.item.Item.{Item}
use Rattle.cbor_det.proofs.Closing.{element_open, element_ends}
use Rattle.cbor_det.proofs.nesting.take_element.Goals as goal

pub returns-then-is_full : goal.returns-then-is_full
returns-then-is_full c = record {
  taken = λ p began. element_ends _ _ _ _ _ _ _ p began (c.replace-whole.ensures.value ∙ c.in_ok-push.ensures.appended)
      (c.len.ensures.len ∙ ap (λ (xs : List Item). length xs) (sym c.replace-whole.ensures.value)) c.is_full.ensures.full c.if-is_full.true;
}

pub returns : goal.returns
returns c = record {
  taken = λ p began. element_open _ _ _ _ _ _ _ p began c.in_ok-push.ensures.appended c.len.ensures.len c.is_full.ensures.full c.if-is_full.false;
}
