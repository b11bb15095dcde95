-- Each part is written after what was written before.
use Rattle.cbor_det.specs.View.{view}
use Rattle.cbor_det.proofs.Writes.{value_more, pair_more, pairs_end, array_puts, map_puts, tag_puts}
use Rattle.cbor_det.proofs.write.+put.Goals as goal

pub put_item-returns-in_ok-put_items-in-Array : goal.put_item-returns-in_ok-put_items-in-Array
put_item-returns-in_ok-put_items-in-Array t c = record { appended = array_puts _ _ _ _ _ _ c.in-Array.is c.len.ensures.len c.in_ok-put_array_head-in-Array.ensures.appended c.in_ok-put_items-in-Array.ensures.appended }

pub put_item-returns-in_ok-put_pairs-in-Map : goal.put_item-returns-in_ok-put_pairs-in-Map
put_item-returns-in_ok-put_pairs-in-Map t c = record { appended = map_puts _ _ _ _ _ _ c.in-Map.is c.len-in-Map.ensures.len c.in_ok-put_head-in-Map.ensures.appended c.in_ok-put_pairs-in-Map.ensures.appended }

pub put_item-returns-in_ok-put_item-in-Tag : goal.put_item-returns-in_ok-put_item-in-Tag
put_item-returns-in_ok-put_item-in-Tag t c = record { appended = tag_puts _ _ _ _ _ _ c.in-Tag.is c.in_ok-put_tag_head-in-Tag.ensures.appended (rw c.get.ensures.value at c.in_ok-put_item-in-Tag.ensures.appended) }

pub put_items-loop-item-preserved : goal.put_items-loop-item-preserved
put_items-loop-item-preserved t c = value_more view _ _ _ _ _ _ c.loop-item-test.true c.item-item.is c.loop-item.invariant c.in_ok-put_item.ensures.appended

pub put_pairs-loop-pair-preserved : goal.put_pairs-loop-pair-preserved
put_pairs-loop-pair-preserved t c = pair_more _ _ _ _ _ _ _ c.loop-pair-test.true c.pair-item.is c.loop-pair.invariant c.in_ok-put_item.ensures.appended c.in_ok-put_item-2.ensures.appended

pub put_pairs-returns : goal.put_pairs-returns
put_pairs-returns t c = record { appended = pairs_end _ _ _ _ _ c.as_slice-pair-items.ensures.items c.loop-pair-test.false c.loop-pair.invariant }
