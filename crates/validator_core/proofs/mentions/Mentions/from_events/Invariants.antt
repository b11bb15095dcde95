-- The mentions are of the events gone over, which are those after what is left.
use Rattle.std.proofs.Common.{◌≡◌, ◌++◌, List, length}
use Rattle.swima_model.specs.declared.event.Event.{Event}
use Rattle.validator_core.specs.Mentions.{AreOf}
use Rattle.validator_core.proofs.mentions.Mentions.from_events.Given as goal

abbrev pub invariant-loop-event : goal.invariant-loop-event
invariant-loop-event l = (later : List Event) × (l.fn.events.items ≡ l.left.items ++ later) × AreOf later l.mentions

abbrev pub decreases-loop-event : goal.decreases-loop-event
decreases-loop-event l = length l.left.items
