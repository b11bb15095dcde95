-- No key is due, and the pairs are all.
use Rattle.std.proofs.Common.{sym, ap, ◌∙◌}
use Rattle.cbor_det.specs.declared.members.Members.{Members}
use Rattle.cbor_det.specs.Open.{entries_view, is_whole}
use Rattle.cbor_det.specs.Held.{members_view, due_key, key_view}
use Rattle.cbor_det.specs.View.{view, listed}
use Rattle.cbor_det.proofs.Entries.{entries_count}
use Rattle.cbor_det.proofs.Rising.{whole_of, listed_count}
use Rattle.cbor_det.proofs.members.Members.is_whole.Goals as goal

pub returns-then-is_none : goal.returns-then-is_none
returns-then-is_none c = record {
  whole = c.is_full.ensures.full
      ∙ whole_of view c.args.all (listed c.in-Rising.rising.pairs) c.in-Rising.rising.key _ _ c.is_none.ensures c.if-is_none.true (c.len.ensures.len ∙ listed_count c.in-Rising.rising.pairs)
      ∙ ap (λ (m : Members). is_whole c.args.all (members_view m) (due_key m)) (sym c.in-Rising.is);
}

pub returns-then-is_none-2 : goal.returns-then-is_none-2
returns-then-is_none-2 c = record {
  whole = c.is_full-then-is_none-2.ensures.full
      ∙ whole_of key_view c.args.all (entries_view c.in-Ordered.ordered.entries.entries) c.in-Ordered.ordered.key _ _ c.is_none-in-Ordered.ensures c.if-is_none-2.true
      (c.len-then-is_none-2.ensures.len ∙ entries_count c.in-Ordered.ordered.entries.entries)
      ∙ ap (λ (m : Members). is_whole c.args.all (members_view m) (due_key m)) (sym c.in-Ordered.is);
}
