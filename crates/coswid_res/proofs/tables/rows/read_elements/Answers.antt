-- No element is left.
use Rattle.std.proofs.Common.{arith}
use Rattle.std.proofs.lemmas.List.{nil_from_length}
use Rattle.std.specs.Vec.Iter.{into_iter_items}
use Rattle.coswid_res.proofs.Elements.{all_read}
use Rattle.coswid_res.proofs.tables.rows.read_elements.Goals as goal

pub returns : goal.returns
returns g c =
    let none = nil_from_length (into_iter_items c.loop-item.item-iterator) (omega (arith, c.loop-item.invariant.len, c.in-None.ensures.steps.0)) in
    record { told = all_read g.F.Form.is g.F.Form.form c.loop-item.values c.loop-item.place _ _ none c.loop-item.invariant.first c.loop-item.invariant.each }
