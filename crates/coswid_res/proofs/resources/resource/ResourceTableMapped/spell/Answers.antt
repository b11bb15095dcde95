-- The rows are spelled in key order, each after the other pairs below it.
use Rattle.coswid_res.specs.Columns.{rows_of}
use Rattle.coswid_res.specs.Resources.{resource_table}
use Rattle.coswid_res.proofs.Rows.{List, drop, refl, ◌∙◌, octets_of, Row, pairs_view, map_laid}
use Rattle.coswid_res.proofs.resources.resource.ResourceTableMapped.spell.Goals as goal

pub returns : goal.returns
unfolding octets_of
returns c =
    let r = c.args.resource.now in
    let rows : List Row = rows_of resource_table r in
    record {
      appended = map_laid rows (pairs_view r.extras) _ _ _ _ refl refl c.in_ok-put_head_with.ensures.appended
          (c.in_ok-put_from.ensures.appended ∙ c.in_ok-place.ensures.spelled (drop 1 rows));
    }
