use Rattle.std.proofs.Common.{◌≡◌, take}
use Rattle.swima_model.specs.Kinds.{events_of_kind}
use Rattle.collector_core.specs.Borrowed.{values}
use Rattle.collector_core.proofs.report_content.events_of_kind.Given as goal

abbrev pub invariant-loop-event : goal.invariant-loop-event
invariant-loop-event l = l.carried.items ≡ events_of_kind l.kind (values (take l.event-index l.events))
