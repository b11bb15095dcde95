-- What the lines of a script do to a world, and what is reported of each. `waits` and `show` do
-- nothing: they print what waits and the mirror.
use Rattle.std.specs.Prelude.{◌-◌, ◌^◌, ◌&&◌, ℕ, zero, suc, Bool, true, false, List, [], ◌∷◌, ◌++◌, Option, Some, None, length, drop, take, map, unwrap_or, nat_lt, if◌then◌else◌}
use Rattle.wire_base.specs.Turns.{Turn, Idle, turns_of}
use Rattle.swima_model.specs.declared.report.Report.{Report}
use Rattle.swima_model.specs.Size.{report_count}
use Rattle.validator_core.specs.Judge.{judge}
use Rattle.collector_core.specs.declared.book.edit.Edit.{Edit}
use Rattle.collector_core.specs.declared.chronicle.Entry.TheVariants as entry
use Rattle.collector_core.specs.declared.error.BookError.{BookError}
use Rattle.collector_core.specs.Chronicle.{extended}
use Rattle.collector_core.specs.Desks.{state_of}
use Rattle.collector_core.specs.Edits.{edit_refusal, entry_of}
use Rattle.session_hear.specs.Hearing.{octets_in}
use Rattle.session_rules.specs.declared.end.SessionEnd.{SessionEnd}
use Rattle.swima_model.specs.Reports.{point_in}
use Rattle.session_rules.specs.Following.{TakenReport}
use Rattle.session_rules.specs.Transcripts.{follow_mirror, served_places}
use Rattle.session_world.specs.declared.telling.Telling.{Telling}
use Rattle.session_world.specs.declared.telling.Telling.TheVariants.{Refused, Took, CollectorEnds, ValidatorEnds}
use Rattle.session_world.specs.World.{World, Joined, MOST, opened, serve_config, following, collector_end, validator_end, up_waits, down_waits, waits_up, waits_down}

-- A world, and what was reported on the way to it.
abbrev pub Told : Type 0
Told = World × List Telling

-- And then what the next does to it.
abbrev pub and_on : Told → (World → Told) → Told
and_on first next = ((next first.0).0, first.1 ++ (next first.0).1)

-- Lines of a session have no effect without one.
abbrev pub in_session : World → (Joined → Told) → Told
in_session w does = elim w.joined as (λ _. Told) [ None ↦ (w, []) | Some j ↦ does j ]

-- ---- the inventory

-- The change is entered, unless it is refused.
abbrev pub enters_by : Edit → World → Option BookError → Told
enters_by edit w (Some error) = (w, Refused error ∷ [])
enters_by edit w None = (record w { chronicle = extended w.chronicle (unwrap_or (entry_of edit (state_of w.chronicle)) (entry.Trim 0) ∷ []) }, [])

abbrev pub enters : Edit → World → Told
enters edit w = enters_by edit w (edit_refusal edit (state_of w.chronicle))

-- ---- the start and the end of a session

-- Another session begins, and one that is open is cut.
abbrev pub opens : World → Told
opens w = (record w { joined = Some (opened w.terms.subscribe w.mirror) }, [])

-- The session is cut, and all that waits is dropped.
abbrev pub cuts : World → Told
cuts w = (record w { joined = None }, [])

-- ---- what the ends hear

-- An end reports how it ended, once.
abbrev pub ends : (SessionEnd → Telling) → Option SessionEnd → List Telling
ends tell None = []
ends tell (Some end) = tell end ∷ []

-- A report that the mirror took.
abbrev pub takes : TakenReport → Telling
takes taken = Took taken.point taken.count taken.answer

-- No more is used of a piece than the limit on octets leaves.
abbrev pub used : List Turn → List ℕ → List ℕ
used turns piece = take (MOST - octets_in turns) piece

-- The validator hears turns, which carry this piece. It hears none once it is over.
abbrev pub followed_on : Joined → List Turn → List ℕ → Joined
followed_on j turns piece = record j { up = j.up ++ turns; carried_up = j.carried_up ++ piece }

abbrev pub follows_to : World → Joined → Joined → Told
follows_to w j later = (
  record w { mirror = follow_mirror (following later); joined = Some later },
  map takes (drop (length (following j).1.notes.taken_reports) (following later).1.notes.taken_reports) ++ ends ValidatorEnds (validator_end later),
)

abbrev pub follows_by : Option SessionEnd → World → Joined → List Turn → List ℕ → Told
follows_by None w j turns piece = follows_to w j (followed_on j turns piece)
follows_by (Some end) w j turns piece = (w, [])

abbrev pub follows : World → Joined → List Turn → List ℕ → Told
follows w j turns piece = follows_by (validator_end j) w j turns piece

-- The collector hears turns. What it asks its desk now is placed at the end of the chronicle.
abbrev pub served_on : World → Joined → List Turn → List ℕ → Joined
served_on w j turns piece = record j {
  down = j.down ++ turns;
  places = served_places w.chronicle (serve_config w.terms) (j.down ++ turns) j.places;
  carried_down = j.carried_down ++ piece;
}

abbrev pub serves_to : World → Joined → Told
serves_to w later = (record w { joined = Some later }, ends CollectorEnds (collector_end w later))

abbrev pub serves_by : Option SessionEnd → World → Joined → List Turn → List ℕ → Told
serves_by None w j turns piece = serves_to w (served_on w j turns piece)
serves_by (Some end) w j turns piece = (w, [])

abbrev pub serves : World → Joined → List Turn → List ℕ → Told
serves w j turns piece = serves_by (collector_end w j) w j turns piece

-- ---- carrying

-- A piece is carried to the validator, and one to the collector.
abbrev pub carries_up : World → Joined → List ℕ → Told
carries_up w j piece = follows w j (turns_of (used j.up piece)) piece

abbrev pub carries_down : World → Joined → List ℕ → Told
carries_down w j piece = serves w j (turns_of (used j.down piece)) piece

-- At most that many of the octets that wait are carried, as one piece.
abbrev pub ups : ℕ → World → Told
ups most w = in_session w (λ j. carries_up w j (take most (up_waits w j)))

abbrev pub downs : ℕ → World → Told
downs most w = in_session w (λ j. carries_down w j (take most (down_waits w j)))

-- All are carried, up and then down.
abbrev pub all_up : World → Told
all_up w = in_session w (λ j. carries_up w j (up_waits w j))

abbrev pub all_down : World → Told
all_down w = in_session w (λ j. carries_down w j (down_waits w j))

abbrev pub round : World → Told
round w = and_on (all_up w) all_down

-- Nothing waits.
abbrev pub is_none : List ℕ → Bool
is_none [] = true
is_none (octet ∷ octets) = false

abbrev pub is_quiet : World → Bool
is_quiet w = is_none (waits_up w) && is_none (waits_down w)

-- Until nothing waits, in at most that many rounds.
abbrev pub rounds : ℕ → World → Told
rounds zero w = (w, [])
rounds (suc more) w = if is_quiet w then (w, []) else and_on (round w) (rounds more)

-- Each round carries an octet at least, and both ends take no more than this.
unfoldable pub MOST_ROUNDS : ℕ
MOST_ROUNDS = 8589934590

abbrev pub runs : World → Told
runs w = rounds MOST_ROUNDS w

-- ---- other lines of a session

-- An idle turn of the collector, and then one of the validator.
abbrev pub collector_rests : World → Told
collector_rests w = in_session w (λ j. serves w j (Idle ∷ []) [])

abbrev pub validator_rests : World → Told
validator_rests w = in_session w (λ j. follows w j (Idle ∷ []) [])

abbrev pub idles : World → Told
idles w = and_on (collector_rests w) validator_rests

-- The mirror takes a report once more. No report that an attribute holds has 2^32 records.
abbrev pub takes_again : World → Option Report → Told
takes_again w None = (w, [])
takes_again w (Some report) =
    if nat_lt (report_count report) (2 ^ 32)
    then (record w { mirror = (judge w.mirror report).1 }, Took (point_in report) (report_count report) (judge w.mirror report).0 ∷ [])
    else (w, [])

-- The last that it took in the session.
abbrev pub again : World → Told
again w = in_session w (λ j. takes_again w (following j).1.notes.last)
