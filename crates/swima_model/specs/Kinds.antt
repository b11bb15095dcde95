-- What reports of a kind carry of records and events: reports of identifiers have no bodies
-- (RFC 8412, sections 5.7 and 5.8).
use Rattle.std.specs.Prelude.{ℕ, List, [], map}
use Rattle.swima_model.specs.declared.event.Event.{Event}
use Rattle.swima_model.specs.declared.record.Record.{Record}
use Rattle.swima_model.specs.declared.report.Kind.{Kind}
use Rattle.swima_model.specs.declared.report.Kind.TheVariants.{Ids, Full}

-- A body.
abbrev pub body_of_kind : Kind → List ℕ → List ℕ
body_of_kind Ids body = []
body_of_kind Full body = body

-- A record.
abbrev pub record_of_kind : Kind → Record → Record
record_of_kind kind r = record r { content = record r.content { body = body_of_kind kind r.content.body } }

-- Records.
abbrev pub records_of_kind : Kind → List Record → List Record
records_of_kind kind records = map (record_of_kind kind) records

-- Events.
abbrev pub events_of_kind : Kind → List Event → List Event
events_of_kind kind events = map (λ (e : Event). record e { subject = record_of_kind kind e.subject }) events
