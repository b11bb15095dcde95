-- The software identifiers of events.
use Rattle.std.specs.Prelude.{◌+◌, ℕ, List, map}
use Rattle.swima_model.specs.declared.event.Event.{Event}
use Rattle.event_log.specs.Log.{events_from}

-- Those of these events.
abbrev pub idents : List Event → List (List ℕ)
idents events = map (λ (e : Event). e.subject.content.ident) events

-- Those of the events after an event identifier.
abbrev pub later_idents : ℕ → List Event → List (List ℕ)
later_idents after events = idents (events_from (after + 1) events)
