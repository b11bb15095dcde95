use Rattle.std.proofs.Common.{◌-◌, [], ◌∷◌, ◌++◌, ◌∙◌, ap, refl, arith}
use Rattle.pa_attrs.specs.declared.attr.Attr.{Attr}
use Rattle.collector_session.proofs.Sizes.{sized_grown}
use Rattle.collector_session.proofs.draft.Draft.put_report.Goals as goal

pub returns-clause-grown : goal.returns-clause-grown
returns-clause-grown c =
    sized_grown c.args.self.now (record c.args.self.now { room = c.args.self.now.room - c.size_of.result; attrs = c.push.new.self; points = c.push-2.new.self }) c.report_type.result c.in_ok-value.value
    (omega (arith, c.report_type.ensures.within))
    (c.in_ok-push.ensures.appended ∙ ap (λ (a : Attr). c.args.self.now.attrs ++ a ∷ []) c.attribute.ensures.attribute) refl
    (omega (arith, c.in_ok-value.ensures.size, c.size_of.ensures.size, c.requires.room))
