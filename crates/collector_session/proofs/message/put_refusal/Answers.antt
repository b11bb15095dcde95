use Rattle.std.proofs.Common.{[], ◌∷◌, ◌++◌, ◌∙◌, ap, refl, arith, length}
use Rattle.std.specs.Prelude.{List}
use Rattle.pa_attrs.specs.declared.attr.Attr.{Attr}
use Rattle.collector_session.proofs.Sizes.{error_grown}
use Rattle.collector_session.proofs.message.put_refusal.Goals as goal

pub close_message-requires-clause-fits : goal.close_message-requires-clause-fits
close_message-requires-clause-fits c =
    (error_grown c.args.draft.now (record c.args.draft.now { attrs = c.push.new.self }) c.args.error.now c.requires.short
    (c.in_ok-push.ensures.appended ∙ ap (λ (a : Attr). c.args.draft.now.attrs ++ a ∷ []) c.in_ok-error_attribute.ensures.attribute) refl refl).fits
    (omega (arith, ap (λ (xs : List Attr). length xs) c.requires.none)) c.requires.fits
