use Rattle.std.proofs.Common.{◌-◌, [], ◌∷◌, ◌++◌, ◌∙◌, ap, arith, refl, sym}
use Rattle.std.proofs.lemmas.Bool.{leb-true}
use Rattle.pa_attrs.specs.declared.attr.Attr.{Attr}
use Rattle.collector_session.proofs.Results.{on_ok}
use Rattle.collector_session.proofs.Sizes.{sized_grown}
use Rattle.collector_session.proofs.draft.Draft.put_status.Goals as goal

pub returns-clause-grown : goal.returns-clause-grown
returns-clause-grown c =
    on_ok c.push.result
    (λ put. sized_grown c.args.self.now (record c.args.self.now { room = c.args.self.now.room - c.len.result; attrs = c.push.new.self }) 19 c.in_ok-value.value (omega arith)
    (put ∙ ap (λ (a : Attr). c.args.self.now.attrs ++ a ∷ []) c.attribute.ensures.attribute) refl
    (omega (arith, c.len.ensures.len, c.in_ok-value.ensures.size, leb-true _ _ (sym c.status_fits.ensures.fits ∙ c.if-not-status_fits.false)))) c.push.ensures.appended
