use Rattle.std.proofs.Common.{◌≡◌, ◌≤◌, ◌<◌, ◌+◌, take}
use Rattle.std.specs.List.{sum_by}
use Rattle.swima_model.specs.Size.{event_size}
use Rattle.collector_core.specs.Borrowed.{values}
use Rattle.collector_core.proofs.answer.fitting.Given as goal

abbrev pub invariant-loop-event : goal.invariant-loop-event
invariant-loop-event l = record {
  size : l.size ≡ 20 + sum_by (event_size l.request.kind) (values (take l.event-index l.events));
  count : l.count ≡ l.event-index;
  fits : 0 < l.event-index → l.size ≤ l.most;
  within : l.size ≤ l.most + 20;
}
