use Rattle.std.proofs.Common.{[], ◌∷◌, ◌++◌, ◌∙◌, ap, refl}
use Rattle.pa_attrs.specs.declared.attr.Attr.{Attr}
use Rattle.session_rules.specs.Messages.{error_attribute}
use Rattle.collector_session.proofs.Results.{on_ok}
use Rattle.collector_session.proofs.Sizes.{swima_grown}
use Rattle.collector_session.proofs.draft.Draft.put_error.Goals as goal

pub returns-clause-grown : goal.returns-clause-grown
returns-clause-grown c =
    let error = c.in_ok-error_attribute.ensures.attribute ∙ ap error_attribute c.in_ok-error.ensures.error in
    on_ok c.push.result
    (λ put. swima_grown c.args.self.now (record c.args.self.now { attrs = c.push.new.self }) c.number.result c.args.id c.args.most (put ∙ ap (λ (a : Attr). c.args.self.now.attrs ++ a ∷ []) error) refl refl)
    c.push.ensures.appended
