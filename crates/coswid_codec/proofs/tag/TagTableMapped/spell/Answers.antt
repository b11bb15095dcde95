-- The groups of rows, one after another.
use Rattle.std.proofs.Common.{[]}
use Rattle.coswid_res.specs.Columns.{rows_of}
use Rattle.coswid_codec.specs.Forms.{tag_table}
use Rattle.coswid_res.proofs.Rows.{List, drop, refl, ◌∙◌, octets_of, Row, pairs_view, map_laid}
use Rattle.coswid_codec.proofs.tag.TagTableMapped.spell.Goals as goal

pub returns : goal.returns
unfolding octets_of
returns c =
    let rows : List Row = rows_of tag_table c.args.tag.now in
    record {
      appended = map_laid rows (pairs_view c.args.tag.now.extras) _ _ _ _ refl c.count_keys.ensures.count c.in_ok-put_head_with.ensures.appended
          (c.in_ok-put_from.ensures.appended ∙ c.in_ok-place-3.ensures.spelled [] ∙ c.in_ok-place-2.ensures.spelled (drop 10 rows) ∙ c.in_ok-place.ensures.spelled (drop 5 rows));
    }
