use Rattle.std.proofs.Common.{refl}
use Rattle.validator_session.proofs.Carrying.{new_core, new_stood}
use Rattle.validator_session.proofs.inner.Inner.new.Goals as goal

pub returns-clause-core : goal.returns-clause-core
returns-clause-core c =
    new_core (record { end = record { config = c.args.config.now; standing = c.new-standing.result; out = c.new-out.result }; feed = c.new-feed.result; quiet = 0 })
    c.new-feed.ensures.made refl c.new-standing.ensures.received c.new-standing.ensures.machine c.new-standing.ensures.rounds c.new-standing.ensures.noted c.requires.rounds c.requires.idle c.requires.octets

pub returns-clause-stands : goal.returns-clause-stands
returns-clause-stands c mirror =
    new_stood c.args.config.now (record { end = record { config = c.args.config.now; standing = c.new-standing.result; out = c.new-out.result }; feed = c.new-feed.result; quiet = 0 }) mirror
    c.new-out.ensures.empty (c.new-standing.ensures.begins mirror) c.new-feed.ensures.made refl c.new-standing.ensures.sent c.new-standing.ensures.received
