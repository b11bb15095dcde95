-- The first sources were asked, and the others are as they were.
use Rattle.std.proofs.Common.{◌≡◌, drop, false, true}
use Rattle.source_set.specs.Sweeping.{HaveCauses}
use Rattle.source_set.proofs.InOrder.{Leads}
use Rattle.source_set.proofs.set.ask_all.Given as goal

abbrev pub invariant-loop-place : goal.invariant-loop-place
invariant-loop-place g l = record {
  leads : Leads g.S.TagSource.reports g.D.Desk.stands g.D.Desk.went l.stamp l.place l.fn.seats.items l.fn.desk l.fn.swept l.seats.items l.desk l.swept;
  same : drop l.place l.seats.items ≡ drop l.place l.fn.seats.items;
  causes : HaveCauses g.S.TagSource.faults l.fn.seats.items l.seats.items (λ number. false);
  takes : g.D.Desk.takes l.desk ≡ true;
}
