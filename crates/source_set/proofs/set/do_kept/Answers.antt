use Rattle.std.proofs.Common.{length, sym}
use Rattle.source_set.specs.Asking.{is_failure}
use Rattle.source_set.proofs.Causing.{causes_none, causes_one, refused_names, refused_stays}
use Rattle.source_set.proofs.InOrder.{seated_at}
use Rattle.source_set.proofs.set.do_kept.Goals as goal

pub returns-in-Err-clause-causes : goal.returns-in-Err-clause-causes
returns-in-Err-clause-causes g c =
    let kept = c.in-Some.field-0 in
    causes_one g.S.TagSource.faults c.args.seats.now.items c.args.seats.now.items kept.source c.index_mut.result.now c.index_mut.result.now c.do_item.new.seat (λ number. is_failure number c.in-Err.stop.error)
    (seated_at (length c.args.seats.now.items) c.args.kept kept c.requires.seated c.in-Some.is) (causes_none g.S.TagSource.faults c.args.seats.now.items) (sym c.index_mut.ensures.value)
    (refused_stays g.S.TagSource.faults g.D.Desk.stands g.D.Desk.went c.args.stamp.now kept.source kept.source kept.item _ _ c.in-Err.stop c.in-Err.ensures.tried)
    (λ number apart. refused_names g.S.TagSource.faults g.D.Desk.stands g.D.Desk.went c.args.stamp.now kept.source number kept.item _ _ c.in-Err.stop c.in-Err.ensures.tried)
