use Rattle.std.proofs.Common.{◌≡◌, ◌-◌, take}
use Rattle.event_log.specs.Log.{events_from}
use Rattle.collector_core.specs.Answering.{wanted_events}
use Rattle.collector_core.specs.Borrowed.{values}
use Rattle.collector_core.proofs.targets.wanted_events.Given as goal

abbrev pub invariant-loop-eid : goal.invariant-loop-eid
invariant-loop-eid l = values l.chosen.items ≡ wanted_events l.targets (take (l.eid - l.earliest) (events_from l.earliest l.log.events))
