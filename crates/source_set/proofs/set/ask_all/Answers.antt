use Rattle.std.proofs.Common.{◌<◌, ◌≤◌, arith, false, length, refl, sym}
use Rattle.source_set.proofs.Causing.{asks_names, causes_one}
use Rattle.source_set.proofs.InOrder.{leads_all, leads_more, leads_stopped, same_more}
use Rattle.source_set.proofs.set.ask_all.Goals as goal

pub loop-place-preserved : goal.loop-place-preserved
loop-place-preserved g c =
    let all = c.loop-place.invariant in
    let less : c.loop-place.place < length c.loop-place.seats.items = omega (arith, c.loop-place-test.true, c.len-place-end.ensures, all.causes.0) in
    record {
      leads =
          leads_more g.S.TagSource.reports g.D.Desk.stands g.D.Desk.went c.args.stamp.now c.loop-place.place c.args.seats.now.items c.loop-place.seats.items c.args.desk.now c.loop-place.desk c.ask.new.desk
          c.args.swept.now c.loop-place.swept c.ask.new.swept c.index_mut.result.now c.index_mut.result.now c.ask.new.seat all.leads all.same less (sym c.index_mut.ensures.value) c.in-Ok.ensures.asked;
      same = same_more g.S.TagSource.reports g.D.Desk.stands g.D.Desk.went c.args.stamp.now c.loop-place.place c.args.seats.now.items c.loop-place.seats.items c.ask.new.seat all.same less;
      causes =
          causes_one g.S.TagSource.faults c.args.seats.now.items c.loop-place.seats.items c.loop-place.place c.index_mut.result.now c.index_mut.result.now c.ask.new.seat (λ number. false)
          less all.causes (sym c.index_mut.ensures.value) c.in-Ok.ensures.cause (λ number apart. refl);
      takes = c.in-Ok.ensures.takes;
    }

pub returns-in-Err-clause-asked : goal.returns-in-Err-clause-asked
returns-in-Err-clause-asked g c =
    let all = c.loop-place.invariant in
    let less : c.loop-place.place < length c.loop-place.seats.items = omega (arith, c.loop-place-test.true, c.len-place-end.ensures, all.causes.0) in
    leads_stopped g.S.TagSource.reports g.D.Desk.stands g.D.Desk.went c.args.stamp.now c.loop-place.place c.args.seats.now.items c.loop-place.seats.items c.args.desk.now c.loop-place.desk c.ask.new.desk
    c.args.swept.now c.loop-place.swept c.ask.new.swept c.index_mut.result.now c.index_mut.result.now c.ask.new.seat c.in-Err.stop all.leads all.same less (sym c.index_mut.ensures.value) c.in-Err.ensures.asked

pub returns-in-Err-clause-causes : goal.returns-in-Err-clause-causes
returns-in-Err-clause-causes g c =
    let all = c.loop-place.invariant in
    let less : c.loop-place.place < length c.loop-place.seats.items = omega (arith, c.loop-place-test.true, c.len-place-end.ensures, all.causes.0) in
    causes_one g.S.TagSource.faults c.args.seats.now.items c.loop-place.seats.items c.loop-place.place c.index_mut.result.now c.index_mut.result.now c.ask.new.seat _
    less all.causes (sym c.index_mut.ensures.value) c.in-Err.ensures.cause
    (λ number apart. asks_names g.S.TagSource.faults g.D.Desk.stands g.D.Desk.went c.args.stamp.now g.S.TagSource.reports c.loop-place.place number _ _ c.in-Err.stop apart c.in-Err.ensures.asked)

pub returns-clause-asked : goal.returns-clause-asked
returns-clause-asked g c =
    let all = c.loop-place.invariant in
    let end : length c.args.seats.now.items ≤ c.loop-place.place = omega (arith, c.loop-place-test.false, c.len-place-end.ensures) in
    leads_all g.S.TagSource.reports g.D.Desk.stands g.D.Desk.went c.args.stamp.now c.loop-place.place c.args.seats.now.items c.loop-place.seats.items c.args.desk.now c.loop-place.desk
    c.args.swept.now c.loop-place.swept all.leads end (omega (arith, end, all.causes.0))

pub returns-clause-causes : goal.returns-clause-causes
returns-clause-causes g c = c.loop-place.invariant.causes
