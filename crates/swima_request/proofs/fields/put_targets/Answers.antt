use Rattle.std.proofs.Common.{rules, ◌≡◌, ◌++◌, sym, subst}
use Rattle.std.proofs.lemmas.List.{append-nil}
use Rattle.wire_base.specs.Written.{Fit, written}
use Rattle.swima_request.specs.RequestForm.{target_fields}
use Rattle.swima_request.proofs.Each.{fit_more, written_more}
use Rattle.swima_request.proofs.fields.put_targets.Goals as goal

pub loop-target-init : goal.loop-target-init
unfolding written
loop-target-init c = record { appended = sym (append-nil c.args.out.now); fits = tt }

pub loop-target-preserved : goal.loop-target-preserved
loop-target-preserved c =
    let items = c.as_slice-target-items.result.now in
    let i = c.loop-target.target-index in
    let d = c.target-item.result in
    record {
      appended = written_more target_fields items i d c.args.out.now c.loop-target.out c.put_target.new.out (search rules) c.loop-target.invariant.appended
          (subst (λ e. c.put_target.new.out ≡ c.loop-target.out ++ written (target_fields e)) c.target-item.is c.in_ok-put_target.ensures.appended);
      fits = fit_more target_fields items i d (search rules) c.loop-target.invariant.fits (subst (λ e. Fit (target_fields e)) c.target-item.is c.in_ok-put_target.ensures.fits);
    }
