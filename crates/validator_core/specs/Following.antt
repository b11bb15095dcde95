-- How the events of a report follow on the one that a mirror holds (RFC 8412, section 3.7.3).
use Rattle.std.specs.Prelude.{◌==◌, ◌+◌, ◌-◌, ℕ, zero, suc, List, [], ◌∷◌, ◌++◌, length, map, filter, Option, Some, None, nat_lt, if◌then◌else◌}
use Rattle.swima_model.specs.declared.event.Event.{Event}
use Rattle.swima_model.specs.declared.record.Record.{Record}
use Rattle.swima_model.specs.History.{contradicts}
use Rattle.swima_model.specs.Live.{live}
use Rattle.swima_model.specs.Size.{records_octets, are_large}
use Rattle.validator_core.specs.declared.mirror.Taken.{Taken}
use Rattle.validator_core.specs.declared.mirror.Taken.TheVariants as taken

-- The events with an event identifier above this one.
abbrev pub events_above : ℕ → List Event → List Event
events_above eid events = filter (λ (e : Event). nat_lt eid e.eid) events

-- The event identifiers of events.
abbrev pub eids : List Event → List ℕ
eids events = map (λ (e : Event). e.eid) events

-- That many numbers one by one, from the first on.
abbrev pub numbers_from : ℕ → ℕ → List ℕ
numbers_from first zero = []
numbers_from first (suc count) = first ∷ numbers_from (first + 1) count

-- The first number of the one list that differs from that of the other; 0 where the one list ends
-- first.
abbrev pub first_difference : List ℕ → List ℕ → Option ℕ
first_difference [] [] = None
first_difference [] (wanted ∷ others) = Some 0
first_difference (told ∷ tolds) [] = Some told
first_difference (told ∷ tolds) (wanted ∷ others) = if told == wanted then first_difference tolds others else Some told

-- The first gap: the event identifiers above the one that is held are to be the numbers after it,
-- up to the last that was consulted.
abbrev pub gap : ℕ → ℕ → List Event → Option ℕ
gap held consulted events = first_difference (eids (events_above held events)) (numbers_from (held + 1) (consulted - held))

-- What is said of the records where they are too many.
abbrev pub too_large : List Record → Option Taken
too_large records = if are_large records then Some (taken.Large (length records) (records_octets records)) else None

-- Why an event does not fit after those before it: it contradicts what is live there, or too much
-- is live after it.
abbrev pub misfit : List Record → List Event → Event → Option Taken
misfit base before event =
    if contradicts (live base before) event then Some (taken.Contradiction event.eid)
    else too_large (live base (before ++ event ∷ []))

-- What is said, or else what is said later.
abbrev pub or_later : Option Taken → Option Taken → Option Taken
or_later (Some said) later = Some said
or_later None later = later

-- What is said of the first event that does not fit, after those before them.
abbrev pub first_misfit_after : List Record → List Event → List Event → Option Taken
first_misfit_after base before [] = None
first_misfit_after base before (event ∷ later) =
    or_later (misfit base before event) (first_misfit_after base (before ++ event ∷ []) later)

-- What is said of the first event of a report that does not fit, over the records that are held.
abbrev pub first_misfit : List Record → List Event → Option Taken
first_misfit base events = first_misfit_after base [] events
