use Rattle.std.proofs.Common.{Err, refl, ap, ◌∙◌}
use Rattle.std.proofs.lemmas.Result.{err_from_is_err_and}
use Rattle.wire_base.specs.declared.outside.stopped.Stopped.{Stopped}
use Rattle.swid_run.proofs.Faulting.{followed_causes, still_cause}
use Rattle.swid_run.proofs.Following.{follows_err, follows_ok}
use Rattle.swid_run.proofs.follow.follow.Goals as goal

pub returns-in_err-mirrors-clause-causes : goal.returns-in_err-mirrors-clause-causes
returns-in_err-mirrors-clause-causes g c =
    let memory = err_from_is_err_and c.from_residual.result c.from_residual.ensures.1 in
    still_cause _ c.from_residual.result (memory.1 ∙ ap (λ (stop : Stopped). Err stop) memory.2)

pub returns-in_err-followed-clause-follows : goal.returns-in_err-followed-clause-follows
returns-in_err-followed-clause-follows g c =
    let memory = err_from_is_err_and c.from_residual-in_err-followed.result c.from_residual-in_err-followed.ensures.1 in
    follows_err _ _ _ _ c.args.options.now _ _ _ _ c.from_residual-in_err-followed.result c.follow_config-config.result c.as_mut_slice-all.result.now c.follow_all.new.mirrors
    c.follow_config-config.ensures.config (c.as_mut_slice-all.ensures.value ∙ c.in_ok-mirrors.ensures.mirrors) c.in_err-followed.field-0.0 c.in_err-followed.ensures.followed refl (memory.1 ∙ ap (λ (stop : Stopped). Err stop) memory.2)

pub returns-in_err-followed-clause-causes : goal.returns-in_err-followed-clause-causes
returns-in_err-followed-clause-causes g c =
    followed_causes _ _ _ g.D.Door.left g.D.Door.returned g.D.Door.last g.D.Door.faults c.args.options.now _ _ _ _ c.from_residual-in_err-followed.result (returns-in_err-followed-clause-follows g c)

pub returns-clause-follows : goal.returns-clause-follows
returns-clause-follows g c =
    follows_ok _ _ _ _ c.args.options.now _ _ _ _ c.print_followed.result c.follow_config-config.result c.as_mut_slice-all.result.now c.follow_all.new.mirrors
    c.follow_config-config.ensures.config (c.as_mut_slice-all.ensures.value ∙ c.in_ok-mirrors.ensures.mirrors) c.in_ok-followed.followed c.as_slice.result.now c.in_ok-mirrors.mirrors.items c.in_ok-mirrors.mirrors.len c.in_ok-followed.ensures.followed
    c.as_mut_slice-all.ensures.value c.as_mut_slice-all.ensures.len c.as_slice.ensures.value c.print_followed.ensures.prints

pub returns-clause-causes : goal.returns-clause-causes
returns-clause-causes g c =
    followed_causes _ _ _ g.D.Door.left g.D.Door.returned g.D.Door.last g.D.Door.faults c.args.options.now _ _ _ _ c.print_followed.result (returns-clause-follows g c)
