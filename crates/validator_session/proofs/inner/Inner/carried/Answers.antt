use Rattle.std.proofs.Common.{refl}
use Rattle.validator_session.proofs.Carrying.{carried_fell, carried_stood}
use Rattle.validator_session.proofs.inner.Inner.carried.Goals as goal

pub returns-clause-stands : goal.returns-clause-stands
returns-clause-stands c config mirror turns carried now =
    carried_stood config mirror turns carried c.args.self.now
    (record c.args.self.now { end = record c.args.self.now.end { out = c.drop_front.new.self; standing = record c.args.self.now.end.standing { notes = record c.args.self.now.end.standing.notes { «record» = record c.args.self.now.end.standing.notes.record { sent = c.saturating_add-self.result } } } } })
    now c.args.count c.requires.within c.drop_front.ensures.rest refl refl refl c.saturating_add-self.ensures refl refl

pub returns-clause-falls : goal.returns-clause-falls
returns-clause-falls c config mirror turns carried now =
    carried_fell config mirror turns carried c.args.self.now
    (record c.args.self.now { end = record c.args.self.now.end { out = c.drop_front.new.self; standing = record c.args.self.now.end.standing { notes = record c.args.self.now.end.standing.notes { «record» = record c.args.self.now.end.standing.notes.record { sent = c.saturating_add-self.result } } } } })
    now c.args.count c.requires.within c.drop_front.ensures.rest refl refl refl c.saturating_add-self.ensures refl refl
