-- What the rules say to an idle turn was done, or memory ran out.
use Rattle.std.proofs.Common.{ap, arith, inl, inr, refl}
use Rattle.session_rules.specs.declared.config.FollowConfig.{FollowConfig}
use Rattle.validator_session.specs.declared.inner.Inner.{Inner}
use Rattle.validator_session.proofs.Turns.{idle_fell, idle_stood}
use Rattle.validator_session.proofs.inner.Inner.rest.Goals as goal

pub returns-clause-turned : goal.returns-clause-turned
returns-clause-turned c =
    let next : Inner = record c.args.self.now { end = c.idle.new.self; quiet = c.one_more-turns.result } in
    let more = c.one_more-turns.ensures.more in
    elim (rw more at c.idle.ensures.idled) [
      | inl so ↦ idle_stood c.args.self.now next c.args.mirror.now c.requires.live refl c.idle.ensures.sent c.idle.ensures.received more so
      | inr lost ↦ idle_fell c.args.self.now next c.args.mirror.now c.requires.live refl c.idle.ensures.sent c.idle.ensures.received lost.0 lost.1
    ]

pub returns-clause-core : goal.returns-clause-core
returns-clause-core c =
    let live = c.requires.core.live c.requires.live in
    record {
      client = c.requires.core.client;
      torn = c.requires.core.torn;
      noted = c.idle.ensures.noted;
      live = λ on. record {
        feeding = live.feeding;
        room = omega (arith, live.room, c.idle.ensures.received, ap (λ (k : FollowConfig). k.octets) c.idle.ensures.config);
        calm = c.idle.ensures.calm on;
        ready = c.idle.ensures.ready on;
      };
    }

pub one_more-turns-requires : goal.one_more-turns-requires
one_more-turns-requires c = record { below = (c.requires.core.live c.requires.live).calm }

pub idle-requires-clause-ready : goal.idle-requires-clause-ready
idle-requires-clause-ready c = (c.requires.core.live c.requires.live).ready
