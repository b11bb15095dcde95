-- The last pair that is left goes before those that are in.
use Rattle.std.proofs.Common.{List, ap, ◌∙◌, refl}
use Rattle.cbor_det.specs.declared.item.Pair.{Pair}
use Rattle.cbor_det.specs.Open.{Entry, entries_view}
use Rattle.cbor_det.specs.View.{listed}
use Rattle.cbor_det.proofs.Adds.{join}
use Rattle.cbor_det.proofs.Rising.{join_nothing, moved}
use Rattle.cbor_det.proofs.members.Ordered.from_pairs.Goals as goal

pub loop-pair-init : goal.loop-pair-init
loop-pair-init c = record {
  same = ap (λ (es : List Entry). join (listed c.into_vec-rest.result.items) (entries_view es)) c.new.ensures.empty ∙ join_nothing (listed c.into_vec-rest.result.items)
      ∙ ap (λ (xs : List Pair). listed xs) c.into_vec-rest.ensures.items;
  key = refl;
}

pub loop-pair-preserved : goal.loop-pair-preserved
loop-pair-preserved c = record {
  same = moved _ _ c.in-Some.pair.key c.in-Some.pair.value (entries_view c.loop-pair.ordered.entries.entries) _ (listed c.args.pairs) c.in-Some.ensures.items c.loop-pair.invariant.same c.requires.rises
      c.in_ok-insert_pair.ensures.puts;
  key = c.in_ok-insert_pair.ensures.key ∙ c.loop-pair.invariant.key;
}
