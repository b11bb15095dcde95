-- Nothing is to be said of the events gone over, and the tally is of what is live after them.
use Rattle.std.proofs.Common.{◌≡◌, take, drop}
use Rattle.validator_core.specs.Following.{events_above, first_misfit, first_misfit_after}
use Rattle.validator_core.specs.Tally.{AreFew, IsTally}
use Rattle.validator_core.proofs.misfit.first_misfit.Given as goal

abbrev pub invariant-loop-event : goal.invariant-loop-event
invariant-loop-event l = record {
  rest :
      first_misfit_after l.fn.tally.records.now (events_above l.eid (take l.event-index l.events)) (events_above l.eid (drop l.event-index l.events))
      ≡ first_misfit l.fn.tally.records.now (events_above l.eid l.events);
  tally : IsTally l.fn.tally.records.now (events_above l.eid (take l.event-index l.events)) l.tally;
  few : AreFew l.tally;
}
