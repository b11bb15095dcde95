-- The values before were written.
use Rattle.std.proofs.Common.{◌≡◌, map, take}
use Rattle.cbor_det.specs.View.{view}
use Rattle.coswid_res.proofs.tables.rows.write_all.Given as goal

abbrev pub invariant-loop-value : goal.invariant-loop-value
invariant-loop-value g l = map view l.items ≡ map g.F.Form.written (take l.value-index l.values)
