use Rattle.std.proofs.Common.{◌∙◌}
use Rattle.source_set.specs.Deeds.{does, gives_up}
use Rattle.source_set.proofs.Working.{given_up, works_more}
use Rattle.source_set.proofs.seat.do_item.Goals as goal

pub returns-in-Ok-clause-tried : goal.returns-in-Ok-clause-tried
returns-in-Ok-clause-tried g c =
    let done = c.in-Ok.ensures.performed in
    record {
      new = done.0;
      known = done.1;
      works =
          works_more g.D.Desk.stands g.D.Desk.went c.args.stamp.now g.met.D.Desk.stays g.met.D.Desk.follows g.met.D.Desk.carries
          c.args.desk.now c.perform.new.desk c.perform.new.desk c.args.swept.now c.perform.new.swept c.end_item.new.swept (does c.args.seat.now.keys done.0 c.args.item) (gives_up c.args.item)
          done.2 (given_up g.D.Desk.stands g.D.Desk.went c.args.stamp.now g.met.D.Desk.stays g.met.D.Desk.follows g.met.D.Desk.carries c.args.item c.perform.new.desk c.perform.new.swept c.end_item.new.swept c.end_item.ensures.counted);
      keys = c.end_item.ensures.keys ∙ done.3;
      source = c.end_item.ensures.source;
    }
