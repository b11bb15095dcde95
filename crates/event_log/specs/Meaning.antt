-- What a log keeps in all, in terms of all events of its epoch.
use Rattle.std.specs.Prelude.{◌≡◌, ◌≤◌, ◌+◌, ◌-◌, ℕ, List, [], ◌∷◌, ◌++◌, length, max}
use Rattle.swima_model.specs.declared.event.Event.{Event}
use Rattle.swima_model.specs.History.{AreNumberedFrom}
use Rattle.event_log.specs.Log.{Log, empty_log, events_from, kept_from, pushed}

-- The first event identifier that is kept of that many events: not below the greatest trim, nor
-- before the latest that many.
abbrev pub first_of : ℕ → ℕ → ℕ → ℕ
first_of cap trim count = max trim (count + 1 - cap)

-- The log keeps of these events, which were all pushed, those from the first that is kept on.
abbrev pub Keeps : ℕ → ℕ → List Event → Log → Type 0
Keeps cap trim all log = log
    ≡ record { cap = cap; first = first_of cap trim (length all); last = length all; events = events_from (first_of cap trim (length all)) all }

-- A new log keeps all of no events.
abbrev pub NewKeepsAll : Type 0
NewKeepsAll = (cap : ℕ) → 1 ≤ cap → Keeps cap 1 [] (empty_log cap)

-- One event more is kept, and what is too old then is not.
abbrev pub PushKeeps : Type 0
PushKeeps = (cap trim : ℕ) (all : List Event) (event : Event) (log : Log) → 1 ≤ cap → trim ≤ length all + 1
    → AreNumberedFrom 1 (all ++ event ∷ []) → Keeps cap trim all log → Keeps cap trim (all ++ event ∷ []) (pushed log event)

-- A trim is kept to from then on.
abbrev pub TrimKeeps : Type 0
TrimKeeps = (cap trim first : ℕ) (all : List Event) (log : Log) → Keeps cap trim all log
    → Keeps cap (max trim first) all (kept_from first log)
