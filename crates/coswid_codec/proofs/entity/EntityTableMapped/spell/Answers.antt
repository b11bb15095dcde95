-- The rows are spelled in key order, each after the other pairs below it.
use Rattle.coswid_res.specs.Columns.{rows_of}
use Rattle.coswid_res.specs.Items.{uri_item, hash_item}
use Rattle.coswid_codec.specs.Parts.{entity_table}
use Rattle.coswid_res.proofs.Rows.{◌≡◌, ◌+◌, List, drop, refl, ◌∙◌, arith, octets_of, Row, present, pairs_view, map_laid}
use Rattle.coswid_codec.proofs.entity.EntityTableMapped.spell.Goals as goal

pub returns : goal.returns
unfolding octets_of
returns c =
    let e = c.args.entity.now in
    let rows : List Row = rows_of entity_table e in
    let n : 2 + c.count.result + c.count-2.result ≡ present rows = omega (arith, c.count.ensures.count uri_item, c.count-2.ensures.count hash_item) in
    record {
      appended = map_laid rows (pairs_view e.extras) _ _ _ _ refl n c.in_ok-put_head_with.ensures.appended
          (c.in_ok-put_from.ensures.appended ∙ c.in_ok-place-4.ensures.spelled (drop 4 rows) ∙ c.in_ok-place-3.ensures.spelled (drop 3 rows) ∙ c.in_ok-place-2.ensures.spelled (drop 2 rows) ∙ c.in_ok-place.ensures.spelled (drop 1 rows));
    }
