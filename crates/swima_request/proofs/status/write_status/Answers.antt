use Rattle.std.proofs.Common.{◌++◌, ◌<◌, ◌^◌, List, ℕ, length, ap, sym, subst, ◌∙◌}
use Rattle.std.proofs.lemmas.List.Elements.{All-from_recursion}
use Rattle.wire_base.proofs.WrittenLaws.{written_form}
use Rattle.swima_request.specs.declared.request.Request.{Request}
use Rattle.swima_request.specs.StatusForm.{StatusForm, status_fields, written_status}
use Rattle.swima_request.proofs.StatusWriting.{counts_fit, written_is_counted}
use Rattle.swima_request.proofs.status.write_status.Goals as goal

pub put_status-requires : goal.put_status-requires
put_status-requires c =
    let fit = counts_fit c.args.requests.now c.requires.within in
    record { count = fit.0; targets = All-from_recursion (λ (request : Request). length request.targets < 2 ^ 24) c.args.requests.now fit.1 }

pub returns-clause-size : goal.returns-clause-size
returns-clause-size c =
    let made = c.in_ok-put_status.ensures.appended ∙ ap (λ (o : List ℕ). o ++ written_status c.args.requests.now) c.new-out.ensures.empty in
    ap (λ (o : List ℕ). length o) made ∙ written_is_counted c.args.requests.now

pub returns-clause-form : goal.returns-clause-form
returns-clause-form c =
    let made = c.in_ok-put_status.ensures.appended ∙ ap (λ (o : List ℕ). o ++ written_status c.args.requests.now) c.new-out.ensures.empty in
    subst (λ (o : List ℕ). StatusForm c.args.requests.now o) (sym made) (written_form (status_fields c.args.requests.now) c.in_ok-put_status.ensures.fits)
