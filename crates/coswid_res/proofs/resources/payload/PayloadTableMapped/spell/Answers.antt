-- The rows are spelled in key order, each after the other pairs below it.
use Rattle.coswid_res.specs.Columns.{rows_of, maps_of}
use Rattle.coswid_res.specs.DirectoryItems.{directories_item}
use Rattle.coswid_res.specs.Files.{file_table}
use Rattle.coswid_res.specs.Resources.{payload_table, process_table, resource_table}
use Rattle.coswid_res.proofs.Rows.{◌≡◌, ◌+◌, List, drop, refl, ◌∙◌, arith, octets_of, Row, present, pairs_view, map_laid}
use Rattle.coswid_res.proofs.resources.payload.PayloadTableMapped.spell.Goals as goal

pub returns : goal.returns
unfolding octets_of
returns c =
    let p = c.args.payload.now in
    let rows : List Row = rows_of payload_table p in
    let n : c.count.result + c.count-2.result + c.count-3.result + c.count-4.result ≡ present rows = omega (arith, c.count.ensures.count directories_item, c.count-2.ensures.count (maps_of file_table), c.count-3.ensures.count (maps_of process_table), c.count-4.ensures.count (maps_of resource_table)) in
    record {
      appended = map_laid rows (pairs_view p.extras) _ _ _ _ refl n c.in_ok-put_head_with.ensures.appended
          (c.in_ok-put_from.ensures.appended ∙ c.in_ok-place-4.ensures.spelled (drop 4 rows) ∙ c.in_ok-place-3.ensures.spelled (drop 3 rows) ∙ c.in_ok-place-2.ensures.spelled (drop 2 rows) ∙ c.in_ok-place.ensures.spelled (drop 1 rows));
    }
