-- The first key, and those after it.
use Rattle.std.proofs.Common.{◌∷◌, [], subst}
use Rattle.std.proofs.lemmas.Bool.{and_parts}
use Rattle.std.proofs.lemmas.Result.{err_from_is_err_and}
use Rattle.cbor_det.specs.Term.{Pairs}
use Rattle.cbor_det.specs.View.{pairs_view}
use Rattle.coswid_res.specs.ColumnLaws.{are_others}
use Rattle.coswid_res.specs.Schema.{key_of}
use Rattle.coswid_res.proofs.Takes.{first_told, later_told, all_left, all_none}
use Rattle.coswid_res.proofs.tables.columns.Tuple2Columns.read.Goals as goal

pub returns-in_err-first-clause-told : goal.returns-in_err-first-clause-told
returns-in_err-first-clause-told g c =
    let p = err_from_is_err_and c.from_residual.result c.from_residual.ensures.1 in
    rw (p.1, p.2) (first_told _ _ _ c.in_err-first.ensures.told)

pub returns-in_err-later-clause-told : goal.returns-in_err-later-clause-told
returns-in_err-later-clause-told g c =
    let p = err_from_is_err_and c.from_residual-in_err-later.result c.from_residual-in_err-later.ensures.1 in
    let parts = and_parts (are_others (key_of g.C.Column.line ∷ []) g.L.Columns.lines) g.L.Columns.differ c.requires.differ in
    rw (p.1, p.2) (later_told g.C.Column.line g.L.Columns.lines (pairs_view c.args.pairs.now) _ parts.0 c.in_ok-first.ensures.told.0 c.in_ok-first.ensures.left _ c.in_err-later.ensures.told)

pub returns : goal.returns
returns g c =
    let ps = pairs_view c.args.pairs.now in
    let line = g.C.Column.line in
    let lines = g.L.Columns.lines in
    let parts = and_parts (are_others (key_of line ∷ []) lines) g.L.Columns.differ c.requires.differ in
    let first = c.in_ok-first.ensures in
    let later = c.in_ok-later.ensures in
    let none = all_none line lines ps _ parts.0 first.told.0 first.left later.told.0 in
    let left = all_left line lines ps _ parts.0 first.told.0 first.left _ later.left in
    let are = (g.met.L.Columns.still c.in_ok-later.later).still (key_of line) ps parts.0 (subst (λ (us : Pairs). g.L.Columns.are c.in_ok-later.later us) first.left later.told.1) in
    record { told = (none, (first.told.1, are)); left = left }
