-- What a collector answers at a chronicle (RFC 8412, sections 3.5, 3.7 and 5.6 to 5.10).
use Rattle.std.specs.Prelude.{◌≡◌, ◌==◌, ◌||◌, ◌&&◌, ◌+◌, ◌-◌, ℕ, zero, suc, Bool, true, false, not, List, [], ◌∷◌, length, take, drop, filter, max, nat_le, nat_lt, if◌then◌else◌}
use Rattle.std.specs.List.{list_any}
use Rattle.std.specs.Str.{bytes_eq}
use Rattle.swima_model.specs.declared.event.Event.{Event}
use Rattle.swima_model.specs.declared.record.Record.{Record}
use Rattle.swima_model.specs.declared.report.Point.{Point}
use Rattle.swima_model.specs.declared.report.Report.{Report}
use Rattle.swima_model.specs.declared.report.Report.TheVariants.{Inventory, Events}
use Rattle.swima_model.specs.History.{live_at, from_to}
use Rattle.swima_model.specs.Kinds.{events_of_kind}
use Rattle.swima_model.specs.Size.{report_size}
use Rattle.swima_request.specs.declared.request.Request.{Request}
use Rattle.collector_core.specs.declared.answer.Answer.{Answer}
use Rattle.collector_core.specs.declared.answer.Answer.TheVariants as answer
use Rattle.collector_core.specs.Chronicle.{Chronicle, current, last_eid, point_of, first_kept}

-- ---- what matches

-- There are no targets, or the identifier is one of them (section 3.5).
abbrev pub is_wanted : List (List ℕ) → List ℕ → Bool
is_wanted [] ident = true
is_wanted (target ∷ others) ident = list_any (λ (wanted : List ℕ). bytes_eq wanted ident) (target ∷ others)

-- The records that match.
abbrev pub wanted_records : List (List ℕ) → List Record → List Record
wanted_records targets records = filter (λ (r : Record). is_wanted targets r.content.ident) records

-- The events that match.
abbrev pub wanted_events : List (List ℕ) → List Event → List Event
wanted_events targets events = filter (λ (e : Event). is_wanted targets e.subject.content.ident) events

-- ---- reports that fit

-- The report, or its size where that passes the most octets.
abbrev pub if_fits : ℕ → Report → Answer
if_fits most report = if nat_le (report_size report) most then answer.Report report else answer.TooLarge (report_size report) most

-- The event identifier before the first event that is left out, or the last where none is.
abbrev pub consulted_before : List Event → ℕ → ℕ
consulted_before [] last = last
consulted_before (event ∷ later) last = event.eid - 1

-- The report of that many of the events from the start.
abbrev pub events_report : Request → Point → List Event → ℕ → Report
events_report request point events count =
    Events request.kind false request.id point (consulted_before (drop count events) point.eid)
    (events_of_kind request.kind (take count events))

-- With that many of the events from the start the report fits.
abbrev pub front_fits : Request → Point → List Event → ℕ → ℕ → Bool
front_fits request point events most count = nat_le (report_size (events_report request point events count)) most

-- The greatest number that passes a test and is at most so large; 0 where none does.
abbrev pub longest : (ℕ → Bool) → ℕ → ℕ
longest test zero = 0
longest test (suc count) = if test (suc count) then suc count else longest test count

-- ---- answers

-- The report of as many of the events from the start as fit (section 3.7.5). Where not even the
-- first fits, it is that of the first alone, which is too large.
abbrev pub told : Request → Point → List Event → ℕ → Report
told request point events most = events_report request point events (max 1 (longest (front_fits request point events most) (length events)))

-- The matching records that are live, at the point.
abbrev pub inventory_at : Chronicle → Request → Report
inventory_at chronicle request =
    Inventory request.kind false request.id (point_of chronicle)
    (wanted_records request.targets (live_at (current chronicle) (last_eid chronicle) request.kind))

-- The matching events of the epoch from the earliest that was asked for.
abbrev pub events_at : Chronicle → Request → List Event
events_at chronicle request = wanted_events request.targets (from_to request.earliest (last_eid chronicle) (current chronicle).events)

-- What is reported of them.
abbrev pub told_at : Chronicle → Request → ℕ → Report
told_at chronicle request most = told request (point_of chronicle) (events_at chronicle request) most

-- The answer: the inventory where it was asked for or the earliest event is no longer kept, else
-- events.
abbrev pub answer_at : Chronicle → Request → ℕ → Answer
answer_at chronicle request most =
    if request.earliest == 0 || nat_lt request.earliest (first_kept chronicle) then if_fits most (inventory_at chronicle request)
    else if_fits most (told_at chronicle request most)

-- What was answered is this, unless memory ran out.
abbrev pub AnswerIs : Answer → Answer → Type 0
AnswerIs (answer.Report report) wanted = answer.Report report ≡ wanted
AnswerIs (answer.TooLarge size most) wanted = answer.TooLarge size most ≡ wanted
AnswerIs answer.Memory wanted = Unit {0}

-- ---- moves

-- The event is after an event identifier, and matches.
abbrev pub is_later : ℕ → List (List ℕ) → Event → Bool
is_later after targets event = nat_lt after event.eid && is_wanted targets event.subject.content.ident

-- Something has changed since a point: the epoch is another, or events after it are no longer
-- kept, or a matching event is after it.
abbrev pub moved_at : Chronicle → Point → List (List ℕ) → Bool
moved_at chronicle after targets =
    not (after.epoch == (current chronicle).number) || nat_lt (after.eid + 1) (first_kept chronicle)
    || list_any (is_later after.eid targets) (current chronicle).events
