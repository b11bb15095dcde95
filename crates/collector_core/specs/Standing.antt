-- What a book holds, for which chronicles it stands, and what a change does to it. One book stands
-- for many chronicles, since its log forgets.
use Rattle.std.specs.Prelude.{◌≡◌, ◌+◌, ℕ, List, [], ◌∷◌, Option, Some, None, Result, Ok, Err, length}
use Rattle.swima_model.specs.declared.event.Action.{Action}
use Rattle.swima_model.specs.declared.event.Action.TheVariants.{Creation, Deletion, Alteration}
use Rattle.swima_model.specs.declared.event.Event.{Event}
use Rattle.swima_model.specs.declared.record.Content.{Content}
use Rattle.swima_model.specs.declared.record.Record.{Record}
use Rattle.swima_model.specs.Live.{live, record_of}
use Rattle.event_log.specs.Log.{Log, empty_log, events_from, kept_from, pushed}
use Rattle.collector_core.specs.declared.chronicle.Entry.{Entry}
use Rattle.collector_core.specs.declared.chronicle.Entry.TheVariants as entry
use Rattle.collector_core.specs.declared.error.BookError.{BookError}
use Rattle.collector_core.specs.declared.error.BookError.TheVariants as refused
use Rattle.collector_core.specs.Chronicle.{Start, Chronicle, extended, identified_from, current, live_now, last_eid, next_id, first_kept}
use Rattle.collector_core.specs.Legal.{IsLegal}

-- What a book holds: the number of the current epoch, the identifier of the next record, the
-- records that are live, and the log of the epoch's latest events.
pub record BookView : Type 0 where
  pub epoch : ℕ
  pub next : ℕ
  pub records : List Record
  pub log : Log

-- The book stands for the chronicle.
pub record Stands (book : BookView) (chronicle : Chronicle) : Type 0 where
  pub legal : IsLegal chronicle
  pub epoch : book.epoch ≡ (current chronicle).number
  pub next : book.next ≡ next_id chronicle
  pub records : book.records ≡ live_now chronicle
  pub cap : book.log.cap ≡ chronicle.start.cap
  pub first : book.log.first ≡ first_kept chronicle
  pub last : book.log.last ≡ last_eid chronicle
  pub events : book.log.events ≡ events_from (first_kept chronicle) (current chronicle).events

-- The book stands for some chronicle.
abbrev pub StandsForSome : BookView → Type 0
StandsForSome book = (chronicle : Chronicle) × Stands book chronicle

-- ---- changes

-- The event that creates a record, after this last event identifier, with this record identifier.
abbrev pub creation : ℕ → ℕ → List ℕ → Content → Event
creation last next stamp content = record { eid = last + 1; stamp = stamp; action = Creation; subject = record { id = next; content = content } }

-- The event that alters the record of this identifier.
abbrev pub alteration : ℕ → List ℕ → ℕ → Content → Event
alteration last stamp id content = record { eid = last + 1; stamp = stamp; action = Alteration; subject = record { id = id; content = content } }

-- The event that deletes a record: it carries the record that was live, whole.
abbrev pub deletion : ℕ → List ℕ → Record → Event
deletion last stamp held = record { eid = last + 1; stamp = stamp; action = Deletion; subject = held }

-- The entry is one of these.
abbrev pub IsCreation : ℕ → ℕ → List ℕ → Content → Entry → Type 0
IsCreation last next stamp content made = made ≡ entry.Event (creation last next stamp content)

abbrev pub IsAlteration : ℕ → List ℕ → ℕ → Content → Entry → Type 0
IsAlteration last stamp id content made = made ≡ entry.Event (alteration last stamp id content)

abbrev pub IsDeletion : ℕ → List Record → List ℕ → ℕ → Entry → Type 0
IsDeletion last records stamp id made = (held : Record) × (record_of id records ≡ Some held)
    × (made ≡ entry.Event (deletion last stamp held))

-- The next record identifier after an event.
abbrev pub next_after : Action → ℕ → ℕ
next_after Creation next = next + 1
next_after Deletion next = next
next_after Alteration next = next

-- The book after an entry.
abbrev pub book_after : BookView → Entry → BookView
book_after book (entry.Event event) = record {
  epoch = book.epoch;
  next = next_after event.action book.next;
  records = live book.records (event ∷ []);
  log = pushed book.log event;
}
book_after book (entry.Epoch number) = record book { epoch = number; log = empty_log book.log.cap }
book_after book (entry.Trim first) = record book { log = kept_from first book.log }

-- The book of a start.
abbrev pub book_of : Start → BookView
book_of start = record { epoch = start.epoch; next = length start.contents + 1; records = identified_from 1 start.contents; log = empty_log start.cap }

-- The change was done exactly where nothing refuses it, with an entry that is as it says; else the
-- book is as it was. Memory is the last refusal.
abbrev pub Changes : {T : Type 0} → (Entry → Type 0) → Option BookError → BookView → Result T BookError → BookView → Type 0
Changes says refusal old (Ok told) new = (refusal ≡ None) × ((made : Entry) × says made × (new ≡ book_after old made))
Changes says refusal old (Err refused.Memory) new = (refusal ≡ None) × (new ≡ old)
Changes says refusal old (Err error) new = (refusal ≡ Some error) × (new ≡ old)

-- The same of a change that takes no memory.
abbrev pub ChangesExactly : {T : Type 0} → (Entry → Type 0) → Option BookError → BookView → Result T BookError → BookView → Type 0
ChangesExactly says refusal old (Ok told) new = (refusal ≡ None) × ((made : Entry) × says made × (new ≡ book_after old made))
ChangesExactly says refusal old (Err refused.Memory) new = ⊥
ChangesExactly says refusal old (Err error) new = (refusal ≡ Some error) × (new ≡ old)

-- The same in terms of a chronicle that the book stood for: it stands for the longer one, or for it
-- still.
abbrev pub Enters : {T : Type 0} → (Entry → Type 0) → Option BookError → Chronicle → Result T BookError → BookView → Type 0
Enters says refusal chronicle (Ok told) new = (refusal ≡ None) × ((made : Entry) × says made × Stands new (extended chronicle (made ∷ [])))
Enters says refusal chronicle (Err refused.Memory) new = (refusal ≡ None) × Stands new chronicle
Enters says refusal chronicle (Err error) new = (refusal ≡ Some error) × Stands new chronicle

-- A book was made exactly where nothing refuses it.
abbrev pub MakesBook : Start → Option BookError → Result BookView BookError → Type 0
MakesBook start refusal (Ok book) = (refusal ≡ None) × (book ≡ book_of start)
MakesBook start refusal (Err refused.Memory) = refusal ≡ None
MakesBook start refusal (Err error) = refusal ≡ Some error
