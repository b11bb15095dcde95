-- The first gap is that of the events that are left, after the last one gone over.
use Rattle.std.proofs.Common.{◌≡◌, ◌+◌, ◌-◌, ◌≤◌, drop}
use Rattle.validator_core.specs.Following.{eids, events_above, first_difference, gap, numbers_from}
use Rattle.validator_core.proofs.gap.gap.Given as goal

abbrev pub invariant-loop-event : goal.invariant-loop-event
invariant-loop-event l = record {
  rest :
      first_difference (eids (events_above l.held (drop l.event-index l.events))) (numbers_from (l.last + 1) (l.consulted - l.last))
      ≡ gap l.held l.consulted l.events;
  above : l.held ≤ l.last;
  within : l.last ≤ l.consulted;
}
