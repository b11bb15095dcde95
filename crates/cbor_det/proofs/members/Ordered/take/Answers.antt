-- A key is held, or its value is due.
use Rattle.std.proofs.Common.{List, ℕ, ap, sym, ◌∙◌}
use Rattle.cbor_det.specs.declared.item.Item.{Item}
use Rattle.cbor_det.specs.Canonical.{canon}
use Rattle.cbor_det.specs.Open.{entries_view}
use Rattle.cbor_det.specs.Held.{key_view}
use Rattle.cbor_det.specs.View.{view}
use Rattle.cbor_det.specs.Machine.{is_held}
use Rattle.cbor_det.proofs.Entries.{entries_held}
use Rattle.cbor_det.proofs.Rising.{refused_key, taken_key}
use Rattle.cbor_det.proofs.members.Ordered.take.Goals as goal

pub returns-then-contains_key : goal.returns-then-contains_key
returns-then-contains_key c = record {
  taken = refused_key key_view (entries_view c.args.self.now.entries.entries) (view c.args.item) c.args.self.now.key c.contains_key.result _ (sym c.in-None.ensures.value)
      (c.contains_key.ensures ∙ entries_held c.args.self.now.entries.entries c.as_slice.result.now c.args.self.now.are_spelled
      ∙ ap (λ (s : List ℕ). is_held (entries_view c.args.self.now.entries.entries) s) (c.as_slice.ensures.value ∙ c.in_ok-key-in-None.key.is_spelled ∙ ap (λ (i : Item). canon (view i)) c.in_ok-key-in-None.ensures.key))
      c.if-contains_key.true;
}

pub returns-else-contains_key : goal.returns-else-contains_key
returns-else-contains_key c = record {
  taken = taken_key key_view (entries_view c.args.self.now.entries.entries) (view c.args.item) c.args.self.now.key c.contains_key.result (key_view c.in_ok-key-in-None.key) (sym c.in-None.ensures.value)
      (ap (λ (i : Item). view i) c.in_ok-key-in-None.ensures.key)
      (c.contains_key.ensures ∙ entries_held c.args.self.now.entries.entries c.as_slice.result.now c.args.self.now.are_spelled
      ∙ ap (λ (s : List ℕ). is_held (entries_view c.args.self.now.entries.entries) s) (c.as_slice.ensures.value ∙ c.in_ok-key-in-None.key.is_spelled ∙ ap (λ (i : Item). canon (view i)) c.in_ok-key-in-None.ensures.key))
      c.if-contains_key.false;
}
