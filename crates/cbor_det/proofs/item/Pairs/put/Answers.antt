-- The pair stands before the first that is not below it, or nowhere.
use Rattle.cbor_det.proofs.Puts.{pair_put, pairs_kept}
use Rattle.cbor_det.proofs.item.Pairs.put.Goals as goal

pub returns : goal.returns
returns c = record {
  put = pair_put c.args.self.now c.insert.new.self c.as_slice.result.now c.in_ok-place.place c.args.key c.args.value c.in_ok-key.key.item c.into_item-key.result c.in_ok-key.ensures.key
      c.into_item-key.ensures.item c.as_slice.ensures.items c.in_ok-place.ensures.front c.insert.result c.insert.ensures.inserted;
  unchanged = pairs_kept c.args.self.now c.insert.new.self c.insert.result c.insert.ensures.unchanged;
}
