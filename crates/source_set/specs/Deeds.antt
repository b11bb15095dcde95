-- What the items of a source do to the records of an inventory, and to the keys that the source
-- holds.
use Rattle.std.specs.Prelude.{◌≡◌, ◌+◌, ◌-◌, ◌^◌, ℕ, List, [], ◌∷◌, ◌++◌, Option, Some, None, map, min}
use Rattle.std.specs.List.{fold}
use Rattle.swima_model.specs.declared.record.Content.{Content}
use Rattle.swima_model.specs.declared.record.Record.{Record}
use Rattle.collector_core.specs.declared.chronicle.Entry.{Entry}
use Rattle.collector_core.specs.Standing.{IsAlteration, IsCreation, IsDeletion}
use Rattle.source_set.specs.Keys.{Held, by_id, id_at, with_key, without}
use Rattle.source_set.specs.declared.swept.Swept.{Swept}
use Rattle.source_set.specs.declared.told.Told.{Told}
use Rattle.source_set.specs.declared.told.Told.TheVariants as told

-- ---- what was done

-- A record was created, altered or deleted, or a source was given up.
pub data Deed : Type 0 where
  Creates : ℕ → Content → Deed
  Alters : ℕ → Content → Deed
  Deletes : ℕ → Deed
  GivesUp : Deed

-- The entries that deeds make, all with one stamp. Which event identifiers these have, and what a
-- deletion carries, the chronicle says.
abbrev pub Make : List ℕ → List Deed → List Entry → Type 0
Make stamp [] entries = entries ≡ []
Make stamp (GivesUp ∷ deeds) entries = Make stamp deeds entries
Make stamp (deed ∷ deeds) [] = ⊥
Make stamp (Creates id content ∷ deeds) (made ∷ entries) = ((last : ℕ) × IsCreation last id stamp content made) × Make stamp deeds entries
Make stamp (Alters id content ∷ deeds) (made ∷ entries) = ((last : ℕ) × IsAlteration last stamp id content made) × Make stamp deeds entries
Make stamp (Deletes id ∷ deeds) (made ∷ entries) = ((last : ℕ) × (records : List Record) × IsDeletion last records stamp id made) × Make stamp deeds entries

-- ---- how many

-- One more, up to the last number of 32 bits.
abbrev pub more : ℕ → ℕ
more count = min (count + 1) (2 ^ 32 - 1)

abbrev pub counted : Swept → Deed → Swept
counted swept (Creates id content) = record swept { added = more swept.added }
counted swept (Alters id content) = record swept { changed = more swept.changed }
counted swept (Deletes id) = record swept { gone = more swept.gone }
counted swept GivesUp = record swept { dropped = more swept.dropped }

-- The counts after deeds.
abbrev pub count : Swept → List Deed → Swept
count swept deeds = fold counted swept deeds

-- ---- an item

-- An item that was done, and the identifier that the desk gave, where the item created a record.
pub record Done : Type 0 where
  pub item : Told
  pub id : ℕ

-- Of a key that may be held: an addition creates its record or alters it.
abbrev pub addition : ℕ → Content → Option ℕ → List Deed
addition new content None = Creates new content ∷ []
addition new content (Some id) = Alters id content ∷ []

abbrev pub alteration : Content → Option ℕ → List Deed
alteration content None = []
alteration content (Some id) = Alters id content ∷ []

abbrev pub deletion : Option ℕ → List Deed
deletion None = []
deletion (Some id) = Deletes id ∷ []

-- The records of these keys are deleted.
abbrev pub deletions : List Held → List Deed
deletions keys = map (λ (held : Held). Deletes held.1) keys

-- What an item does where these keys are held.
abbrev pub does : List Held → ℕ → Told → List Deed
does keys new (told.Add key content) = addition new content (id_at key keys)
does keys new (told.Change key content) = alteration content (id_at key keys)
does keys new (told.Gone key) = deletion (id_at key keys)
does keys new told.Ended = deletions (by_id keys)
does keys new other = []

-- The keys that are held then.
abbrev pub added_to : List Held → ℕ → ℕ → Option ℕ → List Held
added_to keys key new None = with_key key new keys
added_to keys key new (Some id) = keys

abbrev pub leaves : List Held → ℕ → Told → List Held
leaves keys new (told.Add key content) = added_to keys key new (id_at key keys)
leaves keys new (told.Gone key) = without key keys
leaves keys new told.Ended = []
leaves keys new other = keys

-- A source that ended is given up after that.
abbrev pub gives_up : Told → List Deed
gives_up told.Ended = GivesUp ∷ []
gives_up other = []

-- ---- items one after another

-- What the items of a source do, one after another, from the keys that it holds.
abbrev pub deeds : List Held → List Done → List Deed
deeds keys [] = []
deeds keys (done ∷ later) = (does keys done.id done.item ++ gives_up done.item) ++ deeds (leaves keys done.id done.item) later

-- The keys that it holds then.
abbrev pub keys_after : List Held → List Done → List Held
keys_after keys [] = keys
keys_after keys (done ∷ later) = keys_after (leaves keys done.id done.item) later
