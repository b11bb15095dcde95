-- With values of the items that are left there are values of all, and the first fault of all is
-- that of those that are left.
use Rattle.std.proofs.Common.{◌≡◌, ◌+◌, ◌<◌, ◌^◌, length, map}
use Rattle.std.specs.Vec.Iter.{into_iter_items, into_iter_len}
use Rattle.cbor_det.specs.View.{view, terms_of}
use Rattle.coswid_res.specs.Fault.{elements_fault}
use Rattle.coswid_res.proofs.Elements.{Completes}
use Rattle.coswid_res.proofs.tables.rows.read_elements.Given as goal

abbrev pub invariant-loop-item : goal.invariant-loop-item
invariant-loop-item g l = record {
  each : Completes g.F.Form.is l.values (into_iter_items l.item-iterator) l.fn.items;
  first : elements_fault g.F.Form.form 0 (terms_of (map view l.fn.items)) ≡ elements_fault g.F.Form.form l.place (terms_of (map view (into_iter_items l.item-iterator)));
  len : into_iter_len l.item-iterator ≡ length (into_iter_items l.item-iterator);
  small : l.place + length (into_iter_items l.item-iterator) < 2 ^ 63;
}
