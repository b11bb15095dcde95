-- The rows of each level are spelled in key order, each after the other pairs below it.
use Rattle.std.proofs.Common.{◌≤◌, ◌++◌, length, map as map_list, sym, ap}
use Rattle.cbor_det.specs.Canonical.{canon}
use Rattle.cbor_det.specs.Term.{Pairs, array, boolean, map, text}
use Rattle.cbor_det.specs.View.{terms_of}
use Rattle.cbor_det.proofs.Writes.{value_more, values_end}
use Rattle.coswid_res.specs.declared.resources.directory.DirEntry.{DirEntry, out-DirEntry}
use Rattle.coswid_res.specs.declared.resources.directory.PathElements.{out-PathElements}
use Rattle.coswid_res.specs.DirectoryItems.{directory_item, directories_item, path_item}
use Rattle.coswid_res.specs.Columns.{maps_of}
use Rattle.coswid_res.specs.Files.{file_table}
use Rattle.coswid_res.proofs.DirectoryWrites.{directory_rows, path_rows, directory_written, path_written}
use Rattle.coswid_res.proofs.Rows.{◌≡◌, ◌+◌, List, drop, refl, ◌∙◌, arith, octets_of, Row, present, pairs_view, map_laid}
use Rattle.coswid_res.proofs.resources.directory_spell.+spell.Goals as goal

pub spell_directory-returns : goal.spell_directory-returns
unfolding octets_of
spell_directory-returns t c =
    let d = c.args.directory.now in
    let rows : List Row = directory_rows d in
    let n : 1 + c.count.result + c.count-2.result + c.count-3.result + c.count-4.result ≡ present rows = omega (arith, c.count.ensures.count boolean, c.count-2.ensures.count text, c.count-3.ensures.count text, c.count-4.ensures.count path_item) in
    record {
      appended = map_laid rows (pairs_view (out-DirEntry d).extras) _ _ _ _ refl n c.in_ok-put_head_with.ensures.appended
          (c.in_ok-put_from.ensures.appended ∙ c.in_ok-place-5.ensures.spelled (drop 5 rows) ∙ c.in_ok-place-4.ensures.spelled (drop 4 rows) ∙ c.in_ok-place-3.ensures.spelled (drop 3 rows) ∙ c.in_ok-place-2.ensures.spelled (drop 2 rows) ∙ c.in_ok-place.ensures.spelled (drop 1 rows))
          ∙ ap (λ (ps : Pairs). c.args.out.now ++ canon (map ps)) (sym (directory_written d));
    }

pub spell_path-returns : goal.spell_path-returns
unfolding octets_of
spell_path-returns t c =
    let p = c.args.path.now in
    let rows : List Row = path_rows p in
    let n : c.count.result + c.count-2.result ≡ present rows = omega (arith, c.count.ensures.count directories_item, c.count-2.ensures.count (maps_of file_table)) in
    record {
      appended = map_laid rows (pairs_view (out-PathElements p).extras) _ _ _ _ refl n c.in_ok-put_head_with.ensures.appended
          (c.in_ok-put_from.ensures.appended ∙ c.in_ok-place-2.ensures.spelled (drop 2 rows) ∙ c.in_ok-place.ensures.spelled (drop 1 rows))
          ∙ ap (λ (ps : Pairs). c.args.out.now ++ canon (map ps)) (sym (path_written p));
    }

pub spell_all-loop-directory-preserved : goal.spell_all-loop-directory-preserved
spell_all-loop-directory-preserved t c = value_more directory_item _ _ _ _ _ _ c.loop-directory-test.true c.directory-item.is c.loop-directory.invariant c.in_ok-spell_directory.ensures.appended

pub spell_all-returns : goal.spell_all-returns
spell_all-returns t c =
    let slice = c.as_slice-slice.result.now in
    let ends : length slice ≤ c.loop-directory.directory-index = omega (arith, c.loop-directory-test.false) in
    record {
      appended = values_end directory_item _ _ _ _ ends c.loop-directory.invariant
          ∙ ap (λ (ds : List DirEntry). c.args.out.now ++ canon (array (terms_of (map_list directory_item ds)))) c.as_slice-slice.ensures.items;
    }
