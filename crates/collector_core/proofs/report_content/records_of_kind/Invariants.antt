use Rattle.std.proofs.Common.{◌≡◌, take}
use Rattle.swima_model.specs.Kinds.{records_of_kind}
use Rattle.collector_core.specs.Borrowed.{values}
use Rattle.collector_core.proofs.report_content.records_of_kind.Given as goal

abbrev pub invariant-loop-held : goal.invariant-loop-held
invariant-loop-held l = l.carried.items ≡ records_of_kind l.kind (values (take l.held-index l.records))
