-- The values of the ordered map, in order, are its pairs.
use Rattle.std.proofs.Common.{◌∙◌, ap, List, map}
use Rattle.cbor_det.specs.declared.item.Pair.{Pair}
use Rattle.cbor_det.specs.View.{pairs_of}
use Rattle.cbor_det.proofs.Views.{pair_view}
use Rattle.cbor_det.proofs.Entries.{made_pairs, entries_pairs}
use Rattle.cbor_det.proofs.members.Ordered.take_pairs.Goals as goal

pub returns : goal.returns
returns c = record {
  pairs = made_pairs c.from_vec-pairs.result
      ∙ ap (λ (xs : List Pair). pairs_of (map pair_view xs)) (c.from_vec-pairs.ensures.items ∙ (rw c.replace-entries.ensures.value at c.in_ok-values.ensures.values))
      ∙ entries_pairs c.args.self.now.entries.entries;
}
