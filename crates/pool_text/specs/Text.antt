-- The lines that `collect` and `follow` print. Numbers are decimal, and those of workers, sessions
-- and endpoints begin with 1. A worker has the number of its door, and an endpoint that of its
-- address.
use Rattle.std.specs.Prelude.{ℕ, ◌+◌, Bool, true, false, List, [], ◌∷◌, ◌++◌, Option, Some, None, codes}
use Rattle.std.specs.Fmt.{decimal}
use Rattle.std.specs.List.{zip}
use Rattle.swima_model.specs.declared.report.Point.{Point}
use Rattle.validator_core.specs.Held.{Held}
use Rattle.session_rules.specs.declared.end.SessionEnd.{SessionEnd}
use Rattle.session_rules.specs.declared.record.SessionRecord.{SessionRecord}
use Rattle.source_set.specs.declared.swept.Swept.{Swept}
use Rattle.source_set.specs.declared.swept.SweepError.TheVariants as error
use Rattle.source_sweeps.specs.declared.sweeps.SweepStop.{SweepStop}
use Rattle.source_sweeps.specs.declared.sweeps.SweepStop.TheVariants as stop
use Rattle.command_text.specs.Ends.{end_words}
use Rattle.command_text.specs.Text.{line, mirror_text}

-- What is noted of a session, and how it ended.
abbrev pub Noted : Type 0
Noted = SessionRecord × SessionEnd

-- The texts of values in order, each with its number. The first value has this number.
abbrev pub numbered : {A : Type 0} → (ℕ → A → List ℕ) → ℕ → List A → List ℕ
numbered text number [] = []
numbered text number (one ∷ others) = text number one ++ numbered text (number + 1) others

-- ---- doors

-- A session of a worker: how many reports were written or taken, and how it ended.
abbrev pub session_line : ℕ → ℕ → Noted → List ℕ
session_line worker session noted =
    line (codes "session" ∷ (decimal worker ++ codes "." ++ decimal session) ∷ codes "reports" ∷ decimal noted.0.reports ∷ end_words noted.1)

-- A door that failed.
abbrev pub failed_line : ℕ → Bool → List ℕ
failed_line worker true = line (codes "door" ∷ decimal worker ∷ codes "failed" ∷ [])
failed_line worker false = []

-- The sessions at a door, and after them whether it failed.
abbrev pub door_text : ℕ → List Noted × Bool → List ℕ
door_text worker door = numbered (session_line worker) 1 door.0 ++ failed_line worker door.1

-- ---- `collect`

-- What the sweeps did.
abbrev pub swept_line : Swept → List ℕ
swept_line swept = line (codes "swept" ∷ decimal swept.added ∷ decimal swept.changed ∷ decimal swept.gone ∷ decimal swept.dropped ∷ [])

-- Why sweeping stopped.
abbrev pub stop_word : SweepStop → List ℕ
stop_word (stop.Sweep (error.SourceFailed source)) = codes "source-failed"
stop_word (stop.Sweep (error.BadLine source number)) = codes "bad-line"
stop_word (stop.Sweep (error.UnknownKey source key)) = codes "unknown-key"
stop_word (stop.Sweep (error.Book refused)) = codes "book"
stop_word (stop.Sweep error.Memory) = codes "memory"
stop_word (stop.ClockRange secs) = codes "clock"

-- That sweeping stopped, where it did.
abbrev pub stopped_line : Option SweepStop → List ℕ
stopped_line None = []
stopped_line (Some why) = line (codes "stopped" ∷ stop_word why ∷ [])

-- The point of the inventory, and how many records it has.
abbrev pub book_line : Point → ℕ → List ℕ
book_line point count = line (codes "book" ∷ decimal point.epoch ∷ decimal point.eid ∷ decimal count ∷ [])

-- What `collect` prints of its doors, of the sweeps beside them, and of the inventory in the end.
abbrev pub collect_text : List (List Noted) → List Bool → Swept → Option SweepStop → Point → ℕ → List ℕ
collect_text ends door_failed swept stopped point count =
    numbered door_text 1 (zip ends door_failed) ++ swept_line swept ++ stopped_line stopped ++ book_line point count

-- ---- `follow`

-- An endpoint that was followed: its door, and what its mirror holds.
abbrev pub endpoint_text : ℕ → (List Noted × Bool) × Held → List ℕ
endpoint_text number endpoint = door_text number endpoint.0 ++ line (codes "endpoint" ∷ decimal number ∷ []) ++ mirror_text endpoint.1

-- What `follow` prints of its doors and the mirrors there.
abbrev pub follow_text : List (List Noted) → List Bool → List Held → List ℕ
follow_text ends door_failed mirrors = numbered endpoint_text 1 (zip (zip ends door_failed) mirrors)
