-- The rows are spelled in key order, each after the other pairs below it.
use Rattle.cbor_det.specs.Term.{integer}
use Rattle.coswid_res.specs.Columns.{rows_of}
use Rattle.coswid_res.specs.Resources.{process_table}
use Rattle.coswid_res.proofs.Rows.{◌≡◌, ◌+◌, List, drop, refl, ◌∙◌, arith, octets_of, Row, present, pairs_view, map_laid}
use Rattle.coswid_res.proofs.resources.process.ProcessTableMapped.spell.Goals as goal

pub returns : goal.returns
unfolding octets_of
returns c =
    let p = c.args.process.now in
    let rows : List Row = rows_of process_table p in
    let n : 1 + c.count.result ≡ present rows = omega (arith, c.count.ensures.count integer) in
    record {
      appended = map_laid rows (pairs_view p.extras) _ _ _ _ refl n c.in_ok-put_head_with.ensures.appended
          (c.in_ok-put_from.ensures.appended ∙ c.in_ok-place-2.ensures.spelled (drop 2 rows) ∙ c.in_ok-place.ensures.spelled (drop 1 rows));
    }
