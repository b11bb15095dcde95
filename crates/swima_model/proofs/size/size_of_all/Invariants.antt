use Rattle.std.proofs.Common.{◌≡◌, ◌≤◌, ◌*◌, ◌^◌, take}
use Rattle.std.specs.List.{sum_by}
use Rattle.swima_model.proofs.size.size_of_all.Given as goal

abbrev pub invariant-loop-entry : goal.invariant-loop-entry
invariant-loop-entry g l = record {
  size : l.size ≡ sum_by (g.T.ReportEntry.entry_size l.kind) (take l.entry-index l.entries);
  within : l.size ≤ 2 ^ 21 * l.entry-index;
}
