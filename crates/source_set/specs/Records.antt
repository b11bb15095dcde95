-- What the items of a source leave of the records of an inventory, where nobody else changes these.
use Rattle.std.specs.Prelude.{◌≡◌, ◌==◌, ◌⊎◌, ℕ, false, List, [], ◌∷◌, Option, Some, None, if◌then◌else◌}
use Rattle.std.specs.List.{fold}
use Rattle.std.specs.Option.{option_map}
use Rattle.swima_model.specs.declared.record.Content.{Content}
use Rattle.swima_model.specs.declared.record.Record.{Record}
use Rattle.swima_model.specs.Live.{record_of}
use Rattle.collector_core.specs.declared.chronicle.Entry.{Entry}
use Rattle.collector_core.specs.declared.chronicle.Entry.TheVariants as entry
use Rattle.collector_core.specs.declared.chronicle.Mark.{Mark}
use Rattle.collector_core.specs.Chronicle.{Chronicle, extended, live_now}
use Rattle.collector_core.specs.Desks.{entries, owned}
use Rattle.collector_core.specs.Legal.{IsLegal}
use Rattle.source_set.specs.Asking.{AreKnown, items_of}
use Rattle.source_set.specs.Deeds.{Alters, Creates, Deed, Deletes, Done, GivesUp, Make, deeds, keys_after}
use Rattle.source_set.specs.Keys.{Held, id_at}
use Rattle.source_set.specs.declared.told.Told.{Told}
use Rattle.source_set.specs.declared.told.Told.TheVariants as told

-- ---- what was told last

-- What a source says of a key after an item, from what it said before: a content, or nothing.
abbrev pub told_after : ℕ → Option Content → Told → Option Content
told_after key said (told.Add at content) = if at == key then Some content else said
told_after key said (told.Change at content) = if at == key then Some content else said
told_after key said (told.Gone at) = if at == key then None else said
told_after key said told.Ended = None
told_after key said other = said

-- What it said last.
abbrev pub last_told : ℕ → List Told → Option Content
last_told key items = fold (told_after key) None items

-- ---- records

-- The record of an identifier, of what is known of it.
abbrev pub as_record : ℕ → Option Content → Option Record
as_record id content = option_map (λ (c : Content). record { id = id; content = c }) content

-- What a deed leaves of it.
abbrev pub content_after : ℕ → Option Content → Deed → Option Content
content_after id held (Creates new content) = if new == id then Some content else held
content_after id held (Alters altered content) = if altered == id then Some content else held
content_after id held (Deletes deleted) = if deleted == id then None else held
content_after id held GivesUp = held

-- The identifiers of the records that deeds create.
abbrev pub created : List Deed → List ℕ
created [] = []
created (Creates id content ∷ others) = id ∷ created others
created (Alters id content ∷ others) = created others
created (Deletes id ∷ others) = created others
created (GivesUp ∷ others) = created others

abbrev pub IsAmong : ℕ → List ℕ → Type 0
IsAmong id [] = ⊥
IsAmong id (first ∷ others) = (first ≡ id) ⊎ IsAmong id others

-- The entry is an event of the record.
abbrev pub IsOf : ℕ → Entry → Type 0
IsOf id (entry.Event event) = event.subject.id ≡ id
IsOf id (entry.Epoch number) = ⊥
IsOf id (entry.Trim first) = ⊥

-- No entry of another is an event of the record.
abbrev pub LeftAlone : ℕ → List Mark → Type 0
LeftAlone id [] = Unit {0}
LeftAlone id (mark ∷ later) = (mark.own ≡ false → IsOf id mark.entry → ⊥) × LeftAlone id later

-- Where nobody else changes a record, it is what the deeds leave of it.
abbrev pub DeedsAreRecorded : Type 0
DeedsAreRecorded = (stamp : List ℕ) (chronicle : Chronicle) (marks : List Mark) (done : List Deed) (id : ℕ) (content : Option Content) → Make stamp done (owned marks) → LeftAlone id marks
    → record_of id (live_now chronicle) ≡ as_record id content
    → record_of id (live_now (extended chronicle (entries marks))) ≡ as_record id (fold (content_after id) content done)

-- Exactly the keys that are held have records, one each, with the content that was told last; the
-- other records that were created are gone.
pub record AreRecorded (keys : List Held) (items : List Told) (made : List ℕ) (records : List Record) : Type 0 where
  pub recorded : (key id : ℕ) → id_at key keys ≡ Some id
      → (content : Content) × (last_told key items ≡ Some content) × (record_of id records ≡ Some (record { id = id; content = content }))
  pub apart : (one other id : ℕ) → id_at one keys ≡ Some id → id_at other keys ≡ Some id → one ≡ other
  pub gone : (id : ℕ) → IsAmong id made → ((key : ℕ) → id_at key keys ≡ Some id → ⊥) → record_of id records ≡ None

abbrev pub KeysAreRecorded : Type 0
KeysAreRecorded = (stamp : List ℕ) (chronicle : Chronicle) (marks : List Mark) (dones : List Done) → IsLegal (extended chronicle (entries marks)) → AreKnown [] dones
    → Make stamp (deeds [] dones) (owned marks) → ((id : ℕ) → IsAmong id (created (deeds [] dones)) → LeftAlone id marks)
    → AreRecorded (keys_after [] dones) (items_of dones) (created (deeds [] dones)) (live_now (extended chronicle (entries marks)))
