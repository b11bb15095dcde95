-- One value more.
use Rattle.std.proofs.Common.{◌≤◌, length, arith}
use Rattle.cbor_det.proofs.Writes.{value_more, values_end}
use Rattle.coswid_res.proofs.tables.rows.spell_all.Goals as goal

pub loop-value-preserved : goal.loop-value-preserved
loop-value-preserved g c = value_more g.F.Form.written _ _ _ _ _ _ c.loop-value-test.true c.value-item.is c.loop-value.invariant c.in_ok-spell.ensures.appended

pub returns : goal.returns
returns g c =
    let ends : length c.args.values.now ≤ c.loop-value.value-index = omega (arith, c.loop-value-test.false) in
    record { appended = values_end g.F.Form.written _ _ _ _ ends c.loop-value.invariant }
