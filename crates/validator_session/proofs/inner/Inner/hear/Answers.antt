-- The octets that the limit allows are those that it leaves.
use Rattle.std.proofs.Common.{List, ℕ, ◌≡◌, ◌≤◌, ◌+◌, ap, arith, length, length-take, subst, ◌∙◌}
use Rattle.std.specs.Prelude.{◌-◌, is_some, take}
use Rattle.wire_base.specs.Turns.{turns_of}
use Rattle.validator_session.specs.Core.{Turned, received_of}
use Rattle.validator_session.proofs.Cutting.{taken}
use Rattle.validator_session.proofs.Falling.{piece_less}
use Rattle.validator_session.proofs.inner.Inner.hear.Goals as goal

pub returns-clause-turned : goal.returns-clause-turned
returns-clause-turned c live =
    subst (λ (octets : List ℕ). Turned c.args.self.now c.args.mirror.now (turns_of octets) c.take.new.self c.take.new.mirror)
    (taken (c.args.self.now.end.config.octets - received_of c.args.self.now) c.allowed-used.result c.args.piece.now c.allowed-used.ensures.allowed) c.take.ensures.turned

pub returns-then-used-eq0-clause-less : goal.returns-then-used-eq0-clause-less
returns-then-used-eq0-clause-less c on some = absurd (omega (arith, (c.requires.core.live on).room, c.allowed-used.ensures.allowed, c.if-used-eq0.true, some))

pub returns-clause-less : goal.returns-clause-less
returns-clause-less c on some =
    let live = c.requires.core.live (ap is_some c.in_default.is) in
    let within : c.allowed-used.result ≤ length c.args.piece.now = omega (arith, c.allowed-used.ensures.allowed) in
    let used : length (take c.allowed-used.result c.args.piece.now) ≡ c.allowed-used.result = omega (arith, within, length-take c.allowed-used.result c.args.piece.now) in
    piece_less c.args.self.now c.take.new.self c.allowed-used.result c.take.ensures.config (c.take.ensures.received ∙ ap (λ (n : ℕ). received_of c.args.self.now + n) used) c.take.ensures.quiet (omega (arith, c.if-used-eq0.false))
    (omega (arith, (c.take.ensures.core.live on).room)) live.calm
