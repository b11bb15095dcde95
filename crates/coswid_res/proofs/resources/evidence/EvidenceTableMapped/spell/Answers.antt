-- The rows are spelled in key order, each after the other pairs below it.
use Rattle.cbor_det.specs.Term.{text}
use Rattle.coswid_res.specs.Columns.{rows_of, maps_of}
use Rattle.coswid_res.specs.DirectoryItems.{directories_item}
use Rattle.coswid_res.specs.Files.{file_table}
use Rattle.coswid_res.specs.Items.{time_item}
use Rattle.coswid_res.specs.Resources.{evidence_table, process_table, resource_table}
use Rattle.coswid_res.proofs.Rows.{◌≡◌, ◌+◌, List, drop, refl, ◌∙◌, arith, octets_of, Row, present, pairs_view, map_laid}
use Rattle.coswid_res.proofs.resources.evidence.EvidenceTableMapped.spell.Goals as goal

pub returns : goal.returns
unfolding octets_of
returns c =
    let e = c.args.evidence.now in
    let rows : List Row = rows_of evidence_table e in
    let n : c.count.result + c.count-2.result + c.count-3.result + c.count-4.result + c.count-5.result + c.count-6.result + c.count-7.result ≡ present rows = omega (arith, c.count.ensures.count directories_item, c.count-2.ensures.count (maps_of file_table), c.count-3.ensures.count (maps_of process_table), c.count-4.ensures.count (maps_of resource_table), c.count-5.ensures.count text, c.count-6.ensures.count time_item, c.count-7.ensures.count text) in
    record {
      appended = map_laid rows (pairs_view e.extras) _ _ _ _ refl n c.in_ok-put_head_with.ensures.appended
          (c.in_ok-put_from.ensures.appended ∙ c.in_ok-place-7.ensures.spelled (drop 7 rows) ∙ c.in_ok-place-6.ensures.spelled (drop 6 rows) ∙ c.in_ok-place-5.ensures.spelled (drop 5 rows) ∙ c.in_ok-place-4.ensures.spelled (drop 4 rows) ∙ c.in_ok-place-3.ensures.spelled (drop 3 rows) ∙ c.in_ok-place-2.ensures.spelled (drop 2 rows) ∙ c.in_ok-place.ensures.spelled (drop 1 rows));
    }
