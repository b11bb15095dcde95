-- What reports of a kind carry of one event.
use Rattle.swima_model.specs.declared.event.Event.{Event}
use Rattle.swima_model.specs.declared.report.Kind.{Kind}
use Rattle.swima_model.specs.Kinds.{record_of_kind}

-- The event.
abbrev pub event_of_kind : Kind → Event → Event
event_of_kind kind event = record event { subject = record_of_kind kind event.subject }
