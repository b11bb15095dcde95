use Rattle.source_set.proofs.Performing.{gone_done, gone_refused}
use Rattle.source_set.proofs.doing.remove.Goals as goal

pub returns-in-Ok-clause-removed : goal.returns-in-Ok-clause-removed
returns-in-Ok-clause-removed g c =
    gone_done g.D.Desk.stands g.D.Desk.went c.args.stamp.now g.met.D.Desk.stays g.met.D.Desk.follows g.met.D.Desk.carries
    c.args.keys.now c.remove.new.self c.args.key c.args.id c.args.desk.now c.delete.new.desk c.args.swept.now c.delete.new.swept c.requires.held c.remove.ensures.without c.in-Ok.ensures.deleted

pub returns-in-Err-clause-removed : goal.returns-in-Err-clause-removed
returns-in-Err-clause-removed g c =
    gone_refused g.D.Desk.stands g.D.Desk.went c.args.stamp.now g.met.D.Desk.stays g.met.D.Desk.follows g.met.D.Desk.carries
    c.args.keys.now c.args.key c.args.id c.args.desk.now c.delete.new.desk c.args.swept.now c.delete.new.swept c.in-Err.undone c.requires.held c.in-Err.ensures.deleted
