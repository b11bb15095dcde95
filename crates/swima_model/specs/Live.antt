-- What is live after some events: the last mention of a record decides (RFC 8412, section 3.7).
use Rattle.std.specs.Prelude.{◌≡◌, ◌==◌, ◌||◌, ◌↔◌, ℕ, Bool, true, false, not, List, [], ◌∷◌, ◌++◌, Option, Some, None, filter, find, if◌then◌else◌}
use Rattle.std.specs.List.Sorted.{IsStrictlyIncreasing}
use Rattle.swima_model.specs.declared.event.Action.{Action}
use Rattle.swima_model.specs.declared.event.Action.TheVariants.{Creation, Deletion, Alteration}
use Rattle.swima_model.specs.declared.event.Event.{Event}
use Rattle.swima_model.specs.declared.record.Record.{Record}
use Rattle.swima_model.specs.InOrder.{ids, in_order}

-- The event says that its record is gone.
abbrev pub is_deletion : Action → Bool
is_deletion Creation = false
is_deletion Deletion = true
is_deletion Alteration = false

-- Some event is of the record of this identifier.
abbrev pub is_mentioned : ℕ → List Event → Bool
is_mentioned id [] = false
is_mentioned id (event ∷ later) = (event.subject.id == id) || is_mentioned id later

-- The records of the base that no event mentions.
abbrev pub unmentioned : List Event → List Record → List Record
unmentioned events base = filter (λ (r : Record). not (is_mentioned r.id events)) base

-- Of each record that is mentioned, what the last mention says; nothing where that is a deletion.
abbrev pub last_mentions : List Event → List Record
last_mentions [] = []
last_mentions (event ∷ later) =
    if is_mentioned event.subject.id later || is_deletion event.action then last_mentions later
    else event.subject ∷ last_mentions later

-- The records that are live after some events, in order of identifier, where those of the base were
-- live before them.
abbrev pub live : List Record → List Event → List Record
live base events = in_order (unmentioned events base ++ last_mentions events)

-- ---- the same by identifier

-- The record of this identifier.
abbrev pub record_of : ℕ → List Record → Option Record
record_of id records = find (λ (r : Record). r.id == id) records

-- The later of two mentions.
abbrev pub later_or : Option Event → Option Event → Option Event
later_or (Some event) earlier = Some event
later_or None earlier = earlier

-- The last event of the record of this identifier.
abbrev pub last_mention : ℕ → List Event → Option Event
last_mention id [] = None
last_mention id (event ∷ later) = later_or (last_mention id later) (if event.subject.id == id then Some event else None)

-- What is live of a record: without a mention what the base has of it, and else what its last
-- mention says.
abbrev pub by_mention : Option Record → Option Event → Option Record
by_mention held None = held
by_mention held (Some event) = if is_deletion event.action then None else Some event.subject

-- The records are those that are live, in order of identifier, each identifier once.
pub record IsLive (base : List Record) (events : List Event) (records : List Record) : Type 0 where
  pub rising : IsStrictlyIncreasing (ids records)
  pub each : (id : ℕ) → record_of id records ≡ by_mention (record_of id base) (last_mention id events)

-- Over a base of rising identifiers, `live` gives this and nothing else.
abbrev pub LiveIsLastMention : Type 0
LiveIsLastMention = (base : List Record) (events : List Event) (records : List Record) → IsStrictlyIncreasing (ids base) → (live base events ≡ records) ↔ IsLive base events records
