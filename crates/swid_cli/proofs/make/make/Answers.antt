use Rattle.std.proofs.Common.{refl}
use Rattle.std.proofs.lemmas.Result.{err_from_is_err_and}
use Rattle.swid_cli.proofs.Printing.{made_front, made_nothing}
use Rattle.swid_cli.proofs.make.make.Goals as goal

pub returns-in_err-text-clause-printed : goal.returns-in_err-text-clause-printed
returns-in_err-text-clause-printed g c =
    let p = err_from_is_err_and c.from_residual.result c.from_residual.ensures.1 in
    made_nothing c.args.count _ _ c.from_residual.result p.0 p.1 refl

pub returns-in_err-write_all-clause-printed : goal.returns-in_err-write_all-clause-printed
returns-in_err-write_all-clause-printed g c =
    let p = err_from_is_err_and c.from_residual-in_err-write_all.result c.from_residual-in_err-write_all.ensures.1 in
    made_front c.args.count _ _ c.in_ok-text.text c.from_residual-in_err-write_all.result p.0 p.1 c.in_ok-text.ensures.told (rw c.as_slice.ensures.items at c.in_err-write_all.ensures.front)

pub returns-clause-printed : goal.returns-clause-printed
returns-clause-printed g c = (refl, (c.in_ok-text.text, c.in_ok-text.ensures.told, rw c.as_slice.ensures.items at c.in_ok-write_all.ensures.whole))
