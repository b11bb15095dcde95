-- What was done to the octets of the piece, and what the limit did then.
use Rattle.std.proofs.Common.{◌+◌, ℕ, true, false, Some, ap, length, refl, ◌∙◌}
use Rattle.std.specs.Prelude.{◌==◌}
use Rattle.session_rules.specs.declared.config.FollowConfig.{FollowConfig}
use Rattle.validator_session.specs.declared.end.FollowEnd.{FollowEnd}
use Rattle.validator_session.specs.declared.inner.Inner.{Inner}
use Rattle.validator_session.specs.declared.standing.Standing.{Standing}
use Rattle.validator_session.specs.Core.{received_of, spends}
use Rattle.session_rules.specs.declared.end.SessionEnd.TheVariants as end
use Rattle.validator_session.proofs.Pieces.{core_fell, counted_did, core_stood, piece_fell, piece_stood, spends_received}
use Rattle.validator_session.proofs.inner.Inner.take.Goals as goal

pub returns-in-Ok-clause-turned : goal.returns-in-Ok-clause-turned
returns-in-Ok-clause-turned c =
    let last : FollowEnd = c.hear_octets.new.end in
    let next : Inner = record { end = record last { standing = c.spend.new.standing }; feed = c.hear_octets.new.feed; quiet = 0 } in
    let all = counted_did c.args.self.now c.args.mirror.now c.hear_octets.new.beside c.args.piece.now c.octets_more-taken.result last true c.octets_more-taken.ensures.more c.in-Ok.ensures.did in
    let did = all 0 0 in
    let spent = c.spend.ensures.spent
    ∙ ap (λ (n : ℕ). spends last.standing (n == last.config.octets)) did.received
    ∙ ap (λ (k : FollowConfig). spends last.standing ((received_of c.args.self.now + length c.args.piece.now) == k.octets)) did.config in
    piece_stood c.args.self.now c.args.mirror.now c.hear_octets.new.beside c.args.piece.now c.requires.core c.requires.live c.requires.some c.requires.room last next all c.in-Ok.ensures.hears refl
    _ refl (ap (λ (s : Standing). record last { standing = s }) spent)

pub returns-in-Ok-clause-core : goal.returns-in-Ok-clause-core
returns-in-Ok-clause-core c =
    let last : FollowEnd = c.hear_octets.new.end in
    let next : Inner = record { end = record last { standing = c.spend.new.standing }; feed = c.hear_octets.new.feed; quiet = 0 } in
    let all = counted_did c.args.self.now c.args.mirror.now c.hear_octets.new.beside c.args.piece.now c.octets_more-taken.result last true c.octets_more-taken.ensures.more c.in-Ok.ensures.did in
    let did = all 0 0 in
    let spent = c.spend.ensures.spent
    ∙ ap (λ (n : ℕ). spends last.standing (n == last.config.octets)) did.received
    ∙ ap (λ (k : FollowConfig). spends last.standing ((received_of c.args.self.now + length c.args.piece.now) == k.octets)) did.config in
    core_stood c.args.self.now c.args.mirror.now c.hear_octets.new.beside c.args.piece.now c.requires.core c.requires.live c.requires.some c.requires.room last next all c.in-Ok.ensures.hears refl
    c.in-Ok.ensures.ready c.in-Ok.ensures.feeding _ refl (ap (λ (s : Standing). record last { standing = s }) spent) c.hear_octets.ensures.direction c.hear_octets.ensures.torn

pub hear_octets-requires-clause-ready : goal.hear_octets-requires-clause-ready
hear_octets-requires-clause-ready c =
    let live = c.requires.core.live c.requires.live in
    record {
      goes_on = record { role = live.ready.role; live = live.ready.live; rounds_left = live.ready.rounds_left };
      noted = record { points = c.requires.core.noted.points; answers = c.requires.core.noted.answers };
    }

pub returns-in-Err-clause-turned : goal.returns-in-Err-clause-turned
returns-in-Err-clause-turned c =
    let last : FollowEnd = c.hear_octets.new.end in
    let next : Inner = record { end = record last { standing = record last.standing { over = Some end.Memory } }; feed = c.hear_octets.new.feed; quiet = 0 } in
    piece_fell c.args.self.now c.args.mirror.now c.hear_octets.new.beside c.args.piece.now c.requires.core c.requires.live c.requires.some c.requires.room last next (counted_did c.args.self.now c.args.mirror.now c.hear_octets.new.beside c.args.piece.now c.octets_more-taken.result last false c.octets_more-taken.ensures.more c.in-Err.ensures.did) refl

pub returns-in-Err-clause-core : goal.returns-in-Err-clause-core
returns-in-Err-clause-core c =
    let last : FollowEnd = c.hear_octets.new.end in
    let next : Inner = record { end = record last { standing = record last.standing { over = Some end.Memory } }; feed = c.hear_octets.new.feed; quiet = 0 } in
    core_fell c.args.self.now c.args.mirror.now c.hear_octets.new.beside c.args.piece.now c.requires.core c.requires.live c.requires.some c.requires.room last next (counted_did c.args.self.now c.args.mirror.now c.hear_octets.new.beside c.args.piece.now c.octets_more-taken.result last false c.octets_more-taken.ensures.more c.in-Err.ensures.did) refl c.hear_octets.ensures.direction c.hear_octets.ensures.torn

pub returns-in-Ok-clause-config : goal.returns-in-Ok-clause-config
returns-in-Ok-clause-config c = (c.in-Ok.ensures.did 0 0).config

pub returns-in-Err-clause-config : goal.returns-in-Err-clause-config
returns-in-Err-clause-config c = (c.in-Err.ensures.did 0 0).config

pub returns-in-Ok-clause-received : goal.returns-in-Ok-clause-received
returns-in-Ok-clause-received c =
    let last : FollowEnd = c.hear_octets.new.end in
    let all = counted_did c.args.self.now c.args.mirror.now c.hear_octets.new.beside c.args.piece.now c.octets_more-taken.result last true c.octets_more-taken.ensures.more c.in-Ok.ensures.did in
    ap (λ (s : Standing). s.notes.record.received) c.spend.ensures.spent ∙ spends_received last.standing (last.standing.notes.record.received == last.config.octets) ∙ (all 0 0).received

pub returns-in-Err-clause-received : goal.returns-in-Err-clause-received
returns-in-Err-clause-received c =
    let last : FollowEnd = c.hear_octets.new.end in
    let all = counted_did c.args.self.now c.args.mirror.now c.hear_octets.new.beside c.args.piece.now c.octets_more-taken.result last false c.octets_more-taken.ensures.more c.in-Err.ensures.did in
    (all 0 0).received
