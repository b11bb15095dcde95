-- Any change of a book, as one value.
use Rattle.std.specs.Prelude.{◌≡◌, ℕ, Bool, true, false, Option, Some, Result, Ok, Err, option_map, unwrap_or}
use Rattle.wire_base.specs.Stamp.{IsStamp}
use Rattle.swima_model.specs.declared.record.Record.{Record}
use Rattle.swima_model.specs.Live.{record_of}
use Rattle.collector_core.specs.declared.chronicle.Entry.{Entry}
use Rattle.collector_core.specs.declared.chronicle.Entry.TheVariants as entry
use Rattle.collector_core.specs.declared.book.edit.Edit.{Edit}
use Rattle.collector_core.specs.declared.book.edit.Edit.TheVariants as edit
use Rattle.collector_core.specs.declared.error.BookError.{BookError}
use Rattle.collector_core.specs.BookDesk.{book_state}
use Rattle.collector_core.specs.Desks.{State}
use Rattle.collector_core.specs.Refusals.{alter_refusal, create_refusal, delete_refusal, epoch_refusal, trim_refusal}
use Rattle.collector_core.specs.Standing.{BookView, IsAlteration, IsCreation, IsDeletion, alteration, creation, deletion}

-- Where it has a moment, this is a stamp.
abbrev pub IsStamped : Edit → Type 0
IsStamped (edit.Create stamp content) = IsStamp stamp.now
IsStamped (edit.Alter stamp id content) = IsStamp stamp.now
IsStamped (edit.Delete stamp id) = IsStamp stamp.now
IsStamped (edit.BeginEpoch epoch) = Unit {0}
IsStamped (edit.Trim first) = Unit {0}

-- The entry that it makes.
abbrev pub Makes : Edit → State → Entry → Type 0
Makes (edit.Create stamp content) state made = IsCreation state.last state.next stamp.now content.now made
Makes (edit.Alter stamp id content) state made = IsAlteration state.last stamp.now id content.now made
Makes (edit.Delete stamp id) state made = IsDeletion state.last state.records stamp.now id made
Makes (edit.BeginEpoch epoch) state made = made ≡ entry.Epoch epoch
Makes (edit.Trim first) state made = made ≡ entry.Trim first

-- The entry that it makes, as a function; `None` where it deletes a record that is not live.
abbrev pub entry_of : Edit → State → Option Entry
entry_of (edit.Create stamp content) state = Some (entry.Event (creation state.last state.next stamp.now content.now))
entry_of (edit.Alter stamp id content) state = Some (entry.Event (alteration state.last stamp.now id content.now))
entry_of (edit.Delete stamp id) state = option_map (λ (held : Record). entry.Event (deletion state.last stamp.now held)) (record_of id state.records)
entry_of (edit.BeginEpoch epoch) state = Some (entry.Epoch epoch)
entry_of (edit.Trim first) state = Some (entry.Trim first)

-- The entry that it makes, by the book before it. Where it makes none, a trim to 0, which changes
-- nothing.
abbrev pub book_entry : Edit → BookView → Entry
book_entry edit book = unwrap_or (entry_of edit (book_state book)) (entry.Trim 0)

-- Why it is refused.
abbrev pub edit_refusal : Edit → State → Option BookError
edit_refusal (edit.Create stamp content) state = create_refusal state.last state.next state.records content.now
edit_refusal (edit.Alter stamp id content) state = alter_refusal state.last state.records id content.now
edit_refusal (edit.Delete stamp id) state = delete_refusal state.last state.records id
edit_refusal (edit.BeginEpoch epoch) state = epoch_refusal state.epoch epoch
edit_refusal (edit.Trim first) state = trim_refusal state.last first

-- The record that it changes; 0 where it changes none.
abbrev pub edited_id : Edit → State → ℕ
edited_id (edit.Create stamp content) state = state.next
edited_id (edit.Alter stamp id content) state = id
edited_id (edit.Delete stamp id) state = id
edited_id (edit.BeginEpoch epoch) state = 0
edited_id (edit.Trim first) state = 0

-- Whether it takes memory.
abbrev pub takes_memory : Edit → Bool
takes_memory (edit.Create stamp content) = true
takes_memory (edit.Alter stamp id content) = true
takes_memory (edit.Delete stamp id) = false
takes_memory (edit.BeginEpoch epoch) = false
takes_memory (edit.Trim first) = false

-- The same answer with another value.
abbrev pub retold : {S T E : Type 0} → T → Result S E → Result T E
retold value (Ok told) = Ok value
retold value (Err error) = Err error
