-- The rows are spelled in key order, each after the other pairs below it.
use Rattle.std.proofs.Common.{◌++◌}
use Rattle.std.proofs.lemmas.Result.{IfOk-weaker}
use Rattle.coswid_codec.specs.Groups.{third_rows}
use Rattle.coswid_codec.specs.Forms.{tag_table}
use Rattle.coswid_res.specs.Columns.{rows_of}
use Rattle.coswid_res.proofs.Rows.{List, drop, ◌∙◌, Row}
use Rattle.coswid_codec.proofs.tag.spell_third.Goals as goal

pub returns : goal.returns
returns c =
    let put : List Row = third_rows (rows_of tag_table c.args.tag.now) in
    record {
      spelled = IfOk-weaker c.spell_optional-4.result _ _ (λ next is rows. is rows ∙ c.in_ok-place-4.ensures.spelled (drop 4 put ++ rows) ∙ c.in_ok-place-3.ensures.spelled (drop 3 put ++ rows) ∙ c.in_ok-place-2.ensures.spelled (drop 2 put ++ rows) ∙ c.in_ok-place.ensures.spelled (drop 1 put ++ rows)) c.spell_optional-4.ensures.spelled;
    }
