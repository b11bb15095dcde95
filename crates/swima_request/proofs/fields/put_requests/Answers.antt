use Rattle.std.proofs.Common.{rules, ◌≡◌, ◌++◌, sym, subst}
use Rattle.std.proofs.lemmas.List.{append-nil}
use Rattle.wire_base.specs.Written.{Fit, written}
use Rattle.swima_request.specs.RequestForm.{request_fields}
use Rattle.swima_request.proofs.Each.{fit_more, written_more}
use Rattle.swima_request.proofs.fields.put_requests.Goals as goal

pub loop-request-init : goal.loop-request-init
unfolding written
loop-request-init c = record { appended = sym (append-nil c.args.out.now); fits = tt }

pub loop-request-preserved : goal.loop-request-preserved
loop-request-preserved c =
    let items = c.as_slice-request-items.result.now in
    let i = c.loop-request.request-index in
    let d = c.request-item.result in
    record {
      appended = written_more request_fields items i d c.args.out.now c.loop-request.out c.put_request.new.out (search rules) c.loop-request.invariant.appended
          (subst (λ e. c.put_request.new.out ≡ c.loop-request.out ++ written (request_fields e)) c.request-item.is c.in_ok-put_request.ensures.appended);
      fits = fit_more request_fields items i d (search rules) c.loop-request.invariant.fits (subst (λ e. Fit (request_fields e)) c.request-item.is c.in_ok-put_request.ensures.fits);
    }
