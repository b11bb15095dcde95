-- A fault of the values is reported from one level further up.
use Rattle.cbor_det.specs.View.{view}
use Rattle.coswid_res.specs.Fault.{field_fault}
use Rattle.coswid_res.specs.Schema.{one_or_more}
use Rattle.coswid_res.proofs.tables.rows.read_row_at.Goals as goal

pub returns-in-Err : goal.returns-in-Err
returns-in-Err g c = record { told = c.under.ensures.told (field_fault (one_or_more g.F.Form.form) (view c.args.item)) c.in-Err.ensures.told }
