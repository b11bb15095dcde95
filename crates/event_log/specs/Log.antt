-- A log of the latest events of an epoch, which forgets: it keeps that many at most, and none below
-- a trim.
use Rattle.std.specs.Prelude.{◌≡◌, ◌<◌, ◌≤◌, ◌+◌, ◌-◌, ◌^◌, ℕ, List, [], ◌∷◌, ◌++◌, Option, None, length, filter, max, nat_le, slice_get, if◌then◌else◌}
use Rattle.swima_model.specs.declared.event.Event.{Event}
use Rattle.swima_model.specs.History.{AreNumberedFrom}

-- A log: how many events it keeps at most, the event identifier of the first that it keeps, that of
-- the last that was pushed, and the events from the first to the last. Where it keeps none, the
-- first is 1 above the last.
pub record Log : Type 0 where
  pub cap : ℕ
  pub first : ℕ
  pub last : ℕ
  pub events : List Event

-- The log that keeps these events, of which the last that was pushed is the last.
abbrev pub log_of : ℕ → ℕ → List Event → Log
log_of cap last events = record { cap = cap; first = last + 1 - length events; last = last; events = events }

-- The events from an event identifier on.
abbrev pub events_from : ℕ → List Event → List Event
events_from first events = filter (λ (e : Event). nat_le first e.eid) events

-- The log of an epoch without events.
abbrev pub empty_log : ℕ → Log
empty_log cap = record { cap = cap; first = 1; last = 0; events = [] }

-- The log that keeps no event below this event identifier.
abbrev pub kept_from : ℕ → Log → Log
kept_from eid log = record log { first = max log.first eid; events = events_from eid log.events }

-- The log with one event more, which keeps no more of the latest events than it may.
abbrev pub pushed : Log → Event → Log
pushed log event = kept_from (event.eid + 1 - log.cap) (record log { last = event.eid; events = log.events ++ event ∷ [] })

-- The event of this event identifier, where the log keeps it.
abbrev pub event_at : Log → ℕ → Option Event
event_at log eid = if nat_le log.first eid then slice_get log.events (eid - log.first) else None

-- What is true of each log: its events are numbered from the first to the last, one by one, and are
-- no more than it keeps.
pub record IsLog (log : Log) : Type 0 where
  pub caps : (1 ≤ log.cap) × (log.cap ≤ 4096)
  pub begins : 1 ≤ log.first
  pub count : log.first + length log.events ≡ log.last + 1
  pub numbered : AreNumberedFrom log.first log.events
  pub few : length log.events ≤ log.cap
  pub room : (log.first < 2 ^ 32) × (log.last < 2 ^ 32)
