use Rattle.std.proofs.Common.{◌∙◌, List, ap, arith, inl, inr, refl}
use Rattle.swima_subs.specs.declared.waiting.Waiting.{Waiting}
use Rattle.collector_session.proofs.Renewing.{late_ended, late_waits}
use Rattle.collector_session.proofs.Results.{on_ok}
use Rattle.collector_session.proofs.Sizes.{grown_after, none_grown}
use Rattle.collector_session.proofs.renew.put_late.Goals as goal

pub returns-then-draft-room-clause-put : goal.returns-then-draft-room-clause-put
returns-then-draft-room-clause-put c = late_waits c.args.room c.args.draft.now c.args.id c.args.most c.if-draft-room.true

pub returns-then-draft-room-clause-goes : goal.returns-then-draft-room-clause-goes
returns-then-draft-room-clause-goes c = inl refl

pub returns-then-draft-room-clause-grown : goal.returns-then-draft-room-clause-grown
returns-then-draft-room-clause-grown c = none_grown c.args.draft.now c.args.draft.now refl refl refl

pub returns-clause-put : goal.returns-clause-put
returns-clause-put c =
    late_ended c.args.room c.args.draft.now (record c.args.draft.now { subs = c.end.new.self }) c.put_too_large.new.draft c.args.id c.args.most c.put_too_large.result (omega (arith, c.if-draft-room.false))
    (ap (λ (subs : List Waiting). record c.args.draft.now { subs = subs }) c.end.ensures.ended) c.put_too_large.ensures.put

pub returns-clause-goes : goal.returns-clause-goes
returns-clause-goes c = on_ok c.put_too_large.result (λ subs. inr (inr (subs ∙ c.end.ensures.ended))) c.put_too_large.ensures.subs

pub returns-clause-grown : goal.returns-clause-grown
returns-clause-grown c =
    on_ok c.put_too_large.result (λ grown. grown_after c.args.draft.now (record c.args.draft.now { subs = c.end.new.self }) c.put_too_large.new.draft c.end.new.self c.args.draft.now.earlier refl grown) c.put_too_large.ensures.grown
