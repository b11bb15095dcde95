use Rattle.std.proofs.Common.{◌++◌, List, ℕ, length, ap, sym, subst, ◌∙◌, arith}
use Rattle.wire_base.proofs.WrittenLaws.{written_form}
use Rattle.swima_request.specs.RequestForm.{RequestForm, request_fields, written_request}
use Rattle.swima_request.proofs.Writing.{targets_counted, written_is_counted}
use Rattle.swima_request.proofs.write.write_request.Goals as goal

pub put_request-requires : goal.put_request-requires
put_request-requires c = record { count = omega (arith, c.requires.within, targets_counted c.args.request.now) }

pub returns-clause-size : goal.returns-clause-size
returns-clause-size c =
    let made = c.in_ok-put_request.ensures.appended ∙ ap (λ (o : List ℕ). o ++ written_request c.args.request.now) c.new-out.ensures.empty in
    ap (λ (o : List ℕ). length o) made ∙ written_is_counted c.args.request.now

pub returns-clause-form : goal.returns-clause-form
returns-clause-form c =
    let made = c.in_ok-put_request.ensures.appended ∙ ap (λ (o : List ℕ). o ++ written_request c.args.request.now) c.new-out.ensures.empty in
    subst (λ (o : List ℕ). RequestForm c.args.request.now o) (sym made) (written_form (request_fields c.args.request.now) c.in_ok-put_request.ensures.fits)
