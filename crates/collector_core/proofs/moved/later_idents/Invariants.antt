use Rattle.std.proofs.Common.{◌≡◌, ◌+◌, ◌-◌, take}
use Rattle.event_log.specs.Log.{events_from}
use Rattle.collector_core.specs.Borrowed.{values}
use Rattle.collector_core.specs.Later.{idents}
use Rattle.collector_core.proofs.moved.later_idents.Given as goal

abbrev pub invariant-loop-eid : goal.invariant-loop-eid
invariant-loop-eid l = values l.later.items ≡ idents (take (l.eid - l.first) (events_from (l.after + 1) l.log.events))
