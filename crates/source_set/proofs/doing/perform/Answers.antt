use Rattle.std.proofs.Common.{sym, subst}
use Rattle.source_set.specs.Doing.{Performs}
use Rattle.source_set.specs.declared.told.Told.{Told}
use Rattle.source_set.proofs.Performing.{add_altered, change_altered}
use Rattle.source_set.proofs.doing.perform.Goals as goal

pub returns-in-Some-clause-performed : goal.returns-in-Some-clause-performed
returns-in-Some-clause-performed g c =
    subst (λ (item : Told). Performs g.D.Desk.stands g.D.Desk.went c.args.stamp.now item
    (record { keys = c.args.keys.now; desk = c.args.desk.now; swept = c.args.swept.now }) (record { keys = c.args.keys.now; desk = c.alter.new.desk; swept = c.alter.new.swept }) c.alter.result)
    (sym c.in-Add.is)
    (add_altered g.D.Desk.stands g.D.Desk.went c.args.stamp.now g.met.D.Desk.stays g.met.D.Desk.follows g.met.D.Desk.carries
    c.args.keys.now c.in-Add.key c.in-Some.id c.in-Add.content c.args.desk.now c.alter.new.desk c.args.swept.now c.alter.new.swept c.alter.result (sym c.in-Some.ensures.id) c.alter.ensures.altered)

pub returns-in-Some-id_at-clause-performed : goal.returns-in-Some-id_at-clause-performed
returns-in-Some-id_at-clause-performed g c =
    subst (λ (item : Told). Performs g.D.Desk.stands g.D.Desk.went c.args.stamp.now item
    (record { keys = c.args.keys.now; desk = c.args.desk.now; swept = c.args.swept.now })
    (record { keys = c.args.keys.now; desk = c.alter-in-Some-id_at.new.desk; swept = c.alter-in-Some-id_at.new.swept }) c.alter-in-Some-id_at.result)
    (sym c.in-Change.is)
    (change_altered g.D.Desk.stands g.D.Desk.went c.args.stamp.now g.met.D.Desk.stays g.met.D.Desk.follows g.met.D.Desk.carries
    c.args.keys.now c.in-Change.key c.in-Some-id_at.id c.in-Change.content c.args.desk.now c.alter-in-Some-id_at.new.desk c.args.swept.now c.alter-in-Some-id_at.new.swept c.alter-in-Some-id_at.result
    (sym c.in-Some-id_at.ensures.id) c.alter-in-Some-id_at.ensures.altered)
