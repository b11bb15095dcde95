use Rattle.std.proofs.Common.{◌≡◌, ◌<◌, [], ◌∷◌, ◌∙◌, None, sym, subst}
use Rattle.wire_base.specs.Turns.{Idle}
use Rattle.session_rules.specs.declared.end.SessionEnd.TheVariants as final
use Rattle.collector_session.specs.Cores.{Core, Turned, over, weight}
use Rattle.collector_session.proofs.Falling.{idle_less}
use Rattle.collector_session.proofs.Pieces.{ended}
use Rattle.collector_session.proofs.Taking.{over_core, rested, rested_core, rested_lost, rested_turned}
use Rattle.collector_session.proofs.serve_core.ServeCore.rest.Goals as goal

pub returns-in-Ok-clause-turned : goal.returns-in-Ok-clause-turned
returns-in-Ok-clause-turned g c =
    let before : Core = record { end = c.self.inside.end; feed = c.self.inside.feed; quiet = c.self.inside.quiet } in
    let live : over before ≡ None = subst (λ (core : Core). over core ≡ None) (sym c.self.view_is) c.requires.live in
    subst (λ (core : Core). Turned g.D.Desk.stands g.D.Desk.went c.args.desk.now c.rest.new.desk core (Idle ∷ []) (rested before c.rest.new.self c.idle_more-turns.result)) c.self.view_is
    (rested_turned g.D.Desk.stands g.D.Desk.went g.met.D.Desk.stays g.met.D.Desk.follows g.met.D.Desk.carries c.args.desk.now c.rest.new.desk before c.rest.new.self c.idle_more-turns.result
    (c.idle_more-turns.ensures.idle (c.self.invariant.patient live)) live c.in-Ok.ensures.did)

pub returns-in-Err-clause-turned : goal.returns-in-Err-clause-turned
returns-in-Err-clause-turned g c =
    let before : Core = record { end = c.self.inside.end; feed = c.self.inside.feed; quiet = c.self.inside.quiet } in
    let live : over before ≡ None = subst (λ (core : Core). over core ≡ None) (sym c.self.view_is) c.requires.live in
    subst (λ (core : Core). Turned g.D.Desk.stands g.D.Desk.went c.args.desk.now c.rest.new.desk core (Idle ∷ []) (rested before (ended c.rest.new.self final.Memory) c.idle_more-turns.result)) c.self.view_is
    (rested_lost g.D.Desk.stands g.D.Desk.went g.met.D.Desk.stays g.met.D.Desk.follows g.met.D.Desk.carries c.args.desk.now c.rest.new.desk before c.rest.new.self c.idle_more-turns.result
    (c.idle_more-turns.ensures.idle (c.self.invariant.patient live)) live c.in-Err.ensures.did)

pub invariant_of-self : goal.invariant_of-self
invariant_of-self g c =
    let before : Core = record { end = c.self.inside.end; feed = c.self.inside.feed; quiet = c.self.inside.quiet } in
    let live : over before ≡ None = subst (λ (core : Core). over core ≡ None) (sym c.self.view_is) c.requires.live in
    rested_core before c.rest.new.self c.idle_more-turns.result c.self.invariant live c.rest.ensures.config c.rest.ensures.received c.rest.ensures.taken c.rest.ensures.own c.in-Ok.ensures.ready c.in-Ok.ensures.patient

pub invariant_of-self-in-Err : goal.invariant_of-self-in-Err
invariant_of-self-in-Err g c =
    over_core c.rest.new.self final.Memory c.self.inside.feed c.idle_more-turns.result c.self.invariant.server c.self.invariant.torn (c.rest.ensures.taken ∙ c.self.invariant.taken) (λ is. absurd cc)

pub returns-in-Ok-clause-less : goal.returns-in-Ok-clause-less
returns-in-Ok-clause-less g c =
    let before : Core = record { end = c.self.inside.end; feed = c.self.inside.feed; quiet = c.self.inside.quiet } in
    let after : Core = rested before c.rest.new.self c.idle_more-turns.result in
    let live : over before ≡ None = subst (λ (core : Core). over core ≡ None) (sym c.self.view_is) c.requires.live in
    subst (λ (core : Core). weight after < weight core) c.self.view_is
    (idle_less before after c.rest.ensures.config c.rest.ensures.received (c.idle_more-turns.ensures.idle (c.self.invariant.patient live)) (c.self.invariant.patient live))

pub returns-in-Err-clause-less : goal.returns-in-Err-clause-less
returns-in-Err-clause-less g c =
    let before : Core = record { end = c.self.inside.end; feed = c.self.inside.feed; quiet = c.self.inside.quiet } in
    let after : Core = rested before (ended c.rest.new.self final.Memory) c.idle_more-turns.result in
    let live : over before ≡ None = subst (λ (core : Core). over core ≡ None) (sym c.self.view_is) c.requires.live in
    subst (λ (core : Core). weight after < weight core) c.self.view_is
    (idle_less before after c.rest.ensures.config c.rest.ensures.received (c.idle_more-turns.ensures.idle (c.self.invariant.patient live)) (c.self.invariant.patient live))
