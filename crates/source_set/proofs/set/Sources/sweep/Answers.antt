use Rattle.std.proofs.Common.{◌<◌, arith, length, refl, subst, sym, Err, Ok}
use Rattle.source_set.specs.Sweeping.{IsSeated, nothing, row}
use Rattle.source_set.proofs.InOrder.{kept_seated, swept_seen, swept_within}
use Rattle.source_set.proofs.Whole.{seats_work}
use Rattle.source_set.proofs.set.Sources.sweep.Goals as goal

pub invariant_of-self-in-Err : goal.invariant_of-self-in-Err
invariant_of-self-in-Err g c =
    let stopped = c.in-Err.field-0 in
    let count = c.in-Err.ensures.causes.0 in
    let within =
    swept_within g.S.TagSource.reports g.D.Desk.stands g.D.Desk.went c.args.stamp.now c.take-kept.result (row c.self.inside.seats.items c.args.desk.now nothing)
    (row c.sweep_seats.new.seats.items c.sweep_seats.new.desk c.sweep_seats.new.swept) stopped c.in-Err.ensures.swept in
    let less : stopped.source < length c.sweep_seats.new.seats.items = omega (arith, within, count) in (
      omega (arith, count, c.self.invariant.0),
      subst (IsSeated (length c.sweep_seats.new.seats.items)) (sym c.keep.ensures.kept) (kept_seated (length c.sweep_seats.new.seats.items) stopped.source stopped.stop.item less),
    )

pub returns-in-Ok-clause-swept : goal.returns-in-Ok-clause-swept
returns-in-Ok-clause-swept g c = (
  swept_seen g.S.TagSource.reports g.D.Desk.stands g.D.Desk.went c.args.stamp.now c.args.self.now c.self.inside.seats.items c.self.inside.kept c.take-kept.result c.self.inside.faults c.args.desk.now
      (row c.sweep_seats.new.seats.items c.sweep_seats.new.desk c.sweep_seats.new.swept) (Ok tt) c.self.view_is c.take-kept.ensures.value c.in-Ok.ensures.swept,
  c.take-kept.ensures.after,
)

pub returns-in-Err-clause-swept : goal.returns-in-Err-clause-swept
returns-in-Err-clause-swept g c =
    let stopped = c.in-Err.field-0 in (
      stopped,
      swept_seen g.S.TagSource.reports g.D.Desk.stands g.D.Desk.went c.args.stamp.now c.args.self.now c.self.inside.seats.items c.self.inside.kept c.take-kept.result c.self.inside.faults c.args.desk.now
          (row c.sweep_seats.new.seats.items c.sweep_seats.new.desk c.sweep_seats.new.swept) (Err stopped) c.self.view_is c.take-kept.ensures.value c.in-Err.ensures.swept,
      refl,
      c.keep.ensures.kept,
    )

pub returns-in-Ok-clause-works : goal.returns-in-Ok-clause-works
returns-in-Ok-clause-works g c =
    seats_work g.S.TagSource.reports g.D.Desk.stands g.D.Desk.went c.args.stamp.now g.met.D.Desk.stays g.met.D.Desk.follows g.met.D.Desk.carries c.take-kept.result (row c.self.inside.seats.items c.args.desk.now nothing)
    (row c.sweep_seats.new.seats.items c.sweep_seats.new.desk c.sweep_seats.new.swept) (Ok tt) c.in-Ok.ensures.swept

pub returns-in-Err-clause-works : goal.returns-in-Err-clause-works
returns-in-Err-clause-works g c =
    seats_work g.S.TagSource.reports g.D.Desk.stands g.D.Desk.went c.args.stamp.now g.met.D.Desk.stays g.met.D.Desk.follows g.met.D.Desk.carries c.take-kept.result (row c.self.inside.seats.items c.args.desk.now nothing)
    (row c.sweep_seats.new.seats.items c.sweep_seats.new.desk c.sweep_seats.new.swept) (Err c.in-Err.field-0) c.in-Err.ensures.swept
