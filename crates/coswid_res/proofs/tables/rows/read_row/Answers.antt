-- The elements are those of the array.
use Rattle.std.proofs.Common.{◌≡◌, [], rules}
use Rattle.coswid_res.proofs.Elements.{row_of_array}
use Rattle.coswid_res.proofs.tables.rows.read_row.Goals as goal

pub returns-else-is_empty : goal.returns-else-is_empty
returns-else-is_empty g c =
    let some : c.in-Array.items ≡ [] → ⊥ = search rules in
    record { told = row_of_array g.F.Form.is g.F.Form.form c.args.item c.in-Array.items c.read_elements.result c.in-Array.is some c.read_elements.ensures.told }
