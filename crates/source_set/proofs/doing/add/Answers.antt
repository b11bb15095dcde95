use Rattle.std.proofs.Common.{ℕ, List, Option, ap, refl, sym, ◌∙◌, subst}
use Rattle.std.specs.Option.{IsSome}
use Rattle.source_set.specs.Keys.{Held, id_at, with_key, without}
use Rattle.source_set.proofs.KeyLaws.{back, found, twice}
use Rattle.source_set.proofs.Performing.{add_created, add_refused}
use Rattle.source_set.proofs.doing.add.Goals as goal

pub set-requires : goal.set-requires
set-requires g c =
    record { held = subst (λ (o : Option ℕ). IsSome o) (sym (ap (λ (keys : List Held). id_at c.args.key keys) c.in-Ok.ensures.held ∙ found c.args.key 0 c.args.keys.now)) refl }

pub returns-in-Ok-create-clause-added : goal.returns-in-Ok-create-clause-added
returns-in-Ok-create-clause-added g c =
    add_created g.D.Desk.stands g.D.Desk.went c.args.stamp.now g.met.D.Desk.stays g.met.D.Desk.follows g.met.D.Desk.carries
    c.args.keys.now c.set.new.self c.args.key c.in-Ok-create.id c.args.content.now c.args.desk.now c.create.new.desk c.args.swept.now c.create.new.swept c.requires.absent
    (c.set.ensures.set ∙ ap (λ (keys : List Held). with_key c.args.key c.in-Ok-create.id keys) c.in-Ok.ensures.held ∙ twice c.args.key c.in-Ok-create.id c.args.keys.now)
    c.in-Ok-create.ensures.created

pub returns-in-Err-create-clause-added : goal.returns-in-Err-create-clause-added
returns-in-Err-create-clause-added g c =
    add_refused g.D.Desk.stands g.D.Desk.went c.args.stamp.now g.met.D.Desk.stays g.met.D.Desk.follows g.met.D.Desk.carries
    c.args.keys.now c.remove.new.self c.args.key c.args.content.now c.args.desk.now c.create.new.desk c.args.swept.now c.create.new.swept c.in-Err-create.refused c.requires.absent
    (c.remove.ensures.without ∙ ap (λ (keys : List Held). without c.args.key keys) c.in-Ok.ensures.held ∙ back c.args.key c.args.keys.now c.requires.absent)
    c.in-Err-create.ensures.created.0 c.in-Err-create.ensures.created.1
