use Rattle.std.proofs.Common.{◌≡◌, ◌≤◌, ◌<◌, ◌+◌, None, length, refl, sym, ap, subst, ◌∙◌}
use Rattle.wire_base.specs.Turns.{turns_of}
use Rattle.session_rules.specs.declared.end.SessionEnd.TheVariants as final
use Rattle.collector_session.specs.Cores.{Core, Turned, over, weight}
use Rattle.collector_session.proofs.Falling.{piece_less}
use Rattle.collector_session.proofs.Pieces.{ended}
use Rattle.collector_session.proofs.Taking.{over_core, took_core, took_lost, took_turned}
use Rattle.collector_session.proofs.serve_core.ServeCore.take.Goals as goal

pub returns-in-Ok-clause-turned : goal.returns-in-Ok-clause-turned
returns-in-Ok-clause-turned g c =
    let before : Core = record { end = c.self.inside.end; feed = c.self.inside.feed; quiet = c.self.inside.quiet } in
    let live : over before ≡ None = subst (λ (core : Core). over core ≡ None) (sym c.self.view_is) c.requires.live in
    let within : before.end.standing.record.received + length c.args.piece.now ≤ before.end.config.octets =
    subst (λ (core : Core). core.end.standing.record.received + length c.args.piece.now ≤ core.end.config.octets) (sym c.self.view_is) c.requires.room in
    subst (λ (core : Core). Turned g.D.Desk.stands g.D.Desk.went c.args.desk.now c.hear_octets.new.beside core (turns_of c.args.piece.now) (record { end = c.spend.new.self; feed = c.hear_octets.new.feed; quiet = 0 }))
    c.self.view_is
    (took_turned g.D.Desk.stands g.D.Desk.went g.met.D.Desk.stays g.met.D.Desk.follows g.met.D.Desk.carries c.args.desk.now c.hear_octets.new.beside before c.hear_octets.new.end c.hear_octets.new.feed c.args.piece.now
    c.self.invariant live within c.taken_more-taken.result (c.taken_more-taken.ensures.taken within) c.in-Ok.ensures.did c.in-Ok.ensures.hears c.spend.new.self (record { over = c.spend.ensures.over; last-one = c.spend.ensures.last; left = c.spend.ensures.left }))

pub invariant_of-self : goal.invariant_of-self
invariant_of-self g c =
    let before : Core = record { end = c.self.inside.end; feed = c.self.inside.feed; quiet = c.self.inside.quiet } in
    let live : over before ≡ None = subst (λ (core : Core). over core ≡ None) (sym c.self.view_is) c.requires.live in
    let within : before.end.standing.record.received + length c.args.piece.now ≤ before.end.config.octets =
    subst (λ (core : Core). core.end.standing.record.received + length c.args.piece.now ≤ core.end.config.octets) (sym c.self.view_is) c.requires.room in
    took_core g.D.Desk.stands g.D.Desk.went g.met.D.Desk.stays g.met.D.Desk.follows g.met.D.Desk.carries c.args.desk.now c.hear_octets.new.beside before c.hear_octets.new.end c.hear_octets.new.feed c.args.piece.now
    c.self.invariant live within c.taken_more-taken.result (c.taken_more-taken.ensures.taken within) c.in-Ok.ensures.did c.in-Ok.ensures.hears c.spend.new.self (record { over = c.spend.ensures.over; last-one = c.spend.ensures.last; left = c.spend.ensures.left })
    c.hear_octets.ensures.direction c.hear_octets.ensures.torn c.in-Ok.ensures.ready c.in-Ok.ensures.feeding

pub returns-in-Err-clause-turned : goal.returns-in-Err-clause-turned
returns-in-Err-clause-turned g c =
    let before : Core = record { end = c.self.inside.end; feed = c.self.inside.feed; quiet = c.self.inside.quiet } in
    let live : over before ≡ None = subst (λ (core : Core). over core ≡ None) (sym c.self.view_is) c.requires.live in
    let within : before.end.standing.record.received + length c.args.piece.now ≤ before.end.config.octets =
    subst (λ (core : Core). core.end.standing.record.received + length c.args.piece.now ≤ core.end.config.octets) (sym c.self.view_is) c.requires.room in
    subst (λ (core : Core). Turned g.D.Desk.stands g.D.Desk.went c.args.desk.now c.hear_octets.new.beside core (turns_of c.args.piece.now)
    (record { end = ended c.hear_octets.new.end final.Memory; feed = c.hear_octets.new.feed; quiet = 0 })) c.self.view_is
    (took_lost g.D.Desk.stands g.D.Desk.went g.met.D.Desk.stays g.met.D.Desk.follows g.met.D.Desk.carries c.args.desk.now c.hear_octets.new.beside before c.hear_octets.new.end c.hear_octets.new.feed c.args.piece.now
    c.self.invariant live within c.taken_more-taken.result (c.taken_more-taken.ensures.taken within) c.in-Err.ensures.did)

pub invariant_of-self-in-Err : goal.invariant_of-self-in-Err
invariant_of-self-in-Err g c =
    over_core c.hear_octets.new.end final.Memory c.hear_octets.new.feed 0 (c.hear_octets.ensures.direction ∙ c.self.invariant.server) c.hear_octets.ensures.torn
    ((c.in-Err.ensures.did 0 0).taken ∙ c.self.invariant.taken) (λ is. absurd cc)

pub returns-in-Ok-clause-config : goal.returns-in-Ok-clause-config
returns-in-Ok-clause-config g c = c.spend.ensures.config ∙ (c.in-Ok.ensures.did 0 0).config ∙ ap (λ (core : Core). core.end.config) c.self.view_is

pub returns-in-Err-clause-config : goal.returns-in-Err-clause-config
returns-in-Err-clause-config g c = (c.in-Err.ensures.did 0 0).config ∙ ap (λ (core : Core). core.end.config) c.self.view_is

pub returns-in-Ok-clause-less : goal.returns-in-Ok-clause-less
returns-in-Ok-clause-less g c =
    let before : Core = record { end = c.self.inside.end; feed = c.self.inside.feed; quiet = c.self.inside.quiet } in
    let after : Core = record { end = c.spend.new.self; feed = c.hear_octets.new.feed; quiet = 0 } in
    let live : over before ≡ None = subst (λ (core : Core). over core ≡ None) (sym c.self.view_is) c.requires.live in
    let within : before.end.standing.record.received + length c.args.piece.now ≤ before.end.config.octets =
    subst (λ (core : Core). core.end.standing.record.received + length c.args.piece.now ≤ core.end.config.octets) (sym c.self.view_is) c.requires.room in
    let did = c.in-Ok.ensures.did 0 0 in
    subst (λ (core : Core). weight after < weight core) c.self.view_is
    (piece_less before after (length c.args.piece.now) (c.spend.ensures.config ∙ did.config) (c.spend.ensures.received ∙ did.received ∙ c.taken_more-taken.ensures.taken within) refl c.requires.some within (c.self.invariant.patient live))

pub returns-in-Err-clause-less : goal.returns-in-Err-clause-less
returns-in-Err-clause-less g c =
    let before : Core = record { end = c.self.inside.end; feed = c.self.inside.feed; quiet = c.self.inside.quiet } in
    let after : Core = record { end = ended c.hear_octets.new.end final.Memory; feed = c.hear_octets.new.feed; quiet = 0 } in
    let live : over before ≡ None = subst (λ (core : Core). over core ≡ None) (sym c.self.view_is) c.requires.live in
    let within : before.end.standing.record.received + length c.args.piece.now ≤ before.end.config.octets =
    subst (λ (core : Core). core.end.standing.record.received + length c.args.piece.now ≤ core.end.config.octets) (sym c.self.view_is) c.requires.room in
    let did = c.in-Err.ensures.did 0 0 in
    subst (λ (core : Core). weight after < weight core) c.self.view_is
    (piece_less before after (length c.args.piece.now) did.config (did.received ∙ c.taken_more-taken.ensures.taken within) refl c.requires.some within (c.self.invariant.patient live))
