use Rattle.std.proofs.Common.{◌<◌, ◌≤◌, arith, length, refl, ◌∙◌}
use Rattle.source_set.proofs.Performing.{end_done, end_more, end_refused, key_gone}
use Rattle.source_set.proofs.Working.{works_none}
use Rattle.source_set.proofs.doing.remove_all.Goals as goal

pub returns-in_default-clause-removed : goal.returns-in_default-clause-removed
returns-in_default-clause-removed g c =
    (0, tt, works_none g.D.Desk.stands g.D.Desk.went c.args.stamp.now g.met.D.Desk.stays g.met.D.Desk.follows g.met.D.Desk.carries c.args.desk.now c.args.swept.now, refl, tt)

pub loop-held-init : goal.loop-held-init
loop-held-init g c = record {
  works = works_none g.D.Desk.stands g.D.Desk.went c.args.stamp.now g.met.D.Desk.stays g.met.D.Desk.follows g.met.D.Desk.carries c.args.desk.now c.args.swept.now;
  keys = refl;
  takes = c.requires.takes;
}

pub loop-held-preserved : goal.loop-held-preserved
loop-held-preserved g c =
    let less : c.loop-held.held-index < length c.as_slice-all.result.now = omega (arith, c.loop-held-test.true) in
    record {
      works =
          end_more g.D.Desk.stands g.D.Desk.went c.args.stamp.now g.met.D.Desk.stays g.met.D.Desk.follows g.met.D.Desk.carries
          c.as_slice-all.result.now c.loop-held.held-index _ c.args.desk.now c.loop-held.desk c.delete.new.desk c.args.swept.now c.loop-held.swept c.delete.new.swept less
          c.loop-held.invariant.works c.in-Ok-delete.ensures.deleted;
      keys =
          key_gone g.D.Desk.stands g.D.Desk.went c.args.stamp.now g.met.D.Desk.stays g.met.D.Desk.follows g.met.D.Desk.carries
          c.as_slice-all.result.now c.args.keys.now c.loop-held.keys c.remove.new.self c.loop-held.held-index _ less c.remove.ensures.without c.loop-held.invariant.keys;
      takes = c.in-Ok-delete.ensures.takes;
    }

pub returns-in-Err-clause-removed : goal.returns-in-Err-clause-removed
returns-in-Err-clause-removed g c =
    let less : c.loop-held.held-index < length c.as_slice-all.result.now = omega (arith, c.loop-held-test.true) in
    end_refused g.D.Desk.stands g.D.Desk.went c.args.stamp.now g.met.D.Desk.stays g.met.D.Desk.follows g.met.D.Desk.carries
    c.as_slice-all.result.now c.args.keys.now c.loop-held.keys c.loop-held.held-index _ c.args.desk.now c.loop-held.desk c.delete.new.desk c.args.swept.now c.loop-held.swept c.delete.new.swept
    c.in-Err.undone (c.as_slice-all.ensures.items ∙ c.in-Ok.ensures.order) less c.loop-held.invariant.keys c.loop-held.invariant.works c.in-Err.ensures.deleted

pub returns-clause-removed : goal.returns-clause-removed
returns-clause-removed g c =
    let all : length c.as_slice-all.result.now ≤ c.loop-held.held-index = omega (arith, c.loop-held-test.false) in
    end_done g.D.Desk.stands g.D.Desk.went c.args.stamp.now g.met.D.Desk.stays g.met.D.Desk.follows g.met.D.Desk.carries
    c.as_slice-all.result.now c.args.keys.now c.clear.new.self c.loop-held.held-index c.args.desk.now c.loop-held.desk c.args.swept.now c.loop-held.swept
    (c.as_slice-all.ensures.items ∙ c.in-Ok.ensures.order) all c.clear.ensures.none c.loop-held.invariant.works
