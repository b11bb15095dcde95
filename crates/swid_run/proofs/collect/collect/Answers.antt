use Rattle.std.proofs.Common.{Ok, Err, refl, ap, ◌∙◌}
use Rattle.std.proofs.lemmas.Result.{err_from_is_err_and}
use Rattle.wire_base.specs.declared.outside.stopped.Stopped.{Stopped}
use Rattle.swid_run.proofs.Faulting.{collected_causes, still_cause}
use Rattle.swid_run.proofs.OneChronicle.{collects_err, collects_ok}
use Rattle.swid_run.proofs.collect.collect.Goals as goal

pub returns-in_err-shelf-clause-causes : goal.returns-in_err-shelf-clause-causes
returns-in_err-shelf-clause-causes g c =
    let memory = err_from_is_err_and c.from_residual.result c.from_residual.ensures.1 in
    still_cause _ c.from_residual.result (memory.1 ∙ ap (λ (stop : Stopped). Err stop) memory.2)

pub returns-in_err-served-clause-collects : goal.returns-in_err-served-clause-collects
returns-in_err-served-clause-collects g c =
    let memory = err_from_is_err_and c.from_residual-in_err-served.result c.from_residual-in_err-served.ensures.1 in
    collects_err _ _ _ _ _ _ c.args.options.now _ _ c.from_residual-in_err-served.result c.in_ok-shelf.shelf c.in_ok-shelf.pass c.serve_all-served.new.pass c.in_ok-shelf.ensures.opened c.in_ok-shelf.ensures.stands
    (Err c.in_err-served.field-0.0) c.in_err-served.field-0.0 (rw c.pool_config-config.ensures.config at c.in_err-served.ensures.served) refl refl (memory.1 ∙ ap (λ (stop : Stopped). Err stop) memory.2)

pub returns-in_err-served-clause-causes : goal.returns-in_err-served-clause-causes
returns-in_err-served-clause-causes g c =
    collected_causes _ _ _ g.D.Door.left g.D.Door.returned g.D.Door.last g.D.Door.faults _ _ c.args.options.now _ _ c.from_residual-in_err-served.result (returns-in_err-served-clause-collects g c)

pub returns-clause-collects : goal.returns-clause-collects
returns-clause-collects g c =
    collects_ok _ _ _ _ _ _ c.args.options.now _ _ c.print_served.result c.in_ok-shelf.shelf c.in_ok-shelf.pass c.serve_all-served.new.pass c.in_ok-shelf.ensures.opened c.in_ok-shelf.ensures.stands
    (Ok c.in_ok-served.field-0) c.in_ok-served.field-0 c.close-closed.result.book c.close-closed.result.last (rw c.pool_config-config.ensures.config at c.in_ok-served.ensures.served) refl c.close-closed.ensures.closes c.print_served.ensures.prints

pub returns-clause-causes : goal.returns-clause-causes
returns-clause-causes g c =
    collected_causes _ _ _ g.D.Door.left g.D.Door.returned g.D.Door.last g.D.Door.faults _ _ c.args.options.now _ _ c.print_served.result (returns-clause-collects g c)
