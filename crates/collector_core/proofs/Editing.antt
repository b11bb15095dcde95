-- Any change as one call of a book.
use Rattle.std.proofs.Common.{◌≡◌, ◌∙◌, [], ◌∷◌, refl, sym, ap, subst}
use Rattle.std.proofs.lemmas.Option.{none-some, same_Some}
use Rattle.std.specs.Prelude.{Err, None, Ok, Option, Result, Some, ◌↔◌, option_map, unwrap_or}
use Rattle.swima_model.specs.declared.record.Record.{Record}
use Rattle.collector_core.specs.declared.chronicle.Entry.{Entry}
use Rattle.collector_core.specs.declared.chronicle.Entry.TheVariants as entry
use Rattle.collector_core.specs.declared.book.edit.Edit.{Edit}
use Rattle.collector_core.specs.declared.book.edit.Edit.TheVariants as edit
use Rattle.collector_core.specs.declared.error.BookError.{BookError}
use Rattle.collector_core.specs.declared.error.BookError.TheVariants as refused
use Rattle.collector_core.specs.BookDesk.{book_state}
use Rattle.collector_core.specs.Chronicle.{Chronicle, extended}
use Rattle.collector_core.specs.Desks.{State, state_of}
use Rattle.collector_core.specs.Edits.{Makes, book_entry, entry_of, retold}
use Rattle.collector_core.specs.Meaning.{BookEntryIsEntered, BookEntryIsMade}
use Rattle.collector_core.specs.Standing.{BookView, Changes, Enters, Stands}
use Rattle.collector_core.proofs.BookDesk.{state_same}

module _ {S T : Type 0} (says : Entry → Type 0) (refusal : Option BookError) (value : T) where
  pub changes_retold : (old : BookView) (result : Result S BookError) (new : BookView) → Changes says refusal old result new → Changes says refusal old (retold value result) new
  changes_retold old (Ok told) new done = done
  changes_retold old (Err refused.Memory) new done = done
  changes_retold old (Err (refused.EidsSpent n)) new done = done
  changes_retold old (Err (refused.IdsSpent n)) new done = done
  changes_retold old (Err (refused.UnknownRecord n)) new done = done
  changes_retold old (Err (refused.RecordsFull n)) new done = done
  changes_retold old (Err (refused.BytesFull n m)) new done = done
  changes_retold old (Err (refused.EpochNotNew n m)) new done = done
  changes_retold old (Err (refused.TrimPast n m)) new done = done

  pub enters_retold : (chronicle : Chronicle) (result : Result S BookError) (new : BookView) → Enters says refusal chronicle result new → Enters says refusal chronicle (retold value result) new
  enters_retold chronicle (Ok told) new done = done
  enters_retold chronicle (Err refused.Memory) new done = done
  enters_retold chronicle (Err (refused.EidsSpent n)) new done = done
  enters_retold chronicle (Err (refused.IdsSpent n)) new done = done
  enters_retold chronicle (Err (refused.UnknownRecord n)) new done = done
  enters_retold chronicle (Err (refused.RecordsFull n)) new done = done
  enters_retold chronicle (Err (refused.BytesFull n m)) new done = done
  enters_retold chronicle (Err (refused.EpochNotNew n m)) new done = done
  enters_retold chronicle (Err (refused.TrimPast n m)) new done = done

-- ---- the entry as a function

some_entry : (x y : Entry) → (x ≡ y) ↔ (Some y ≡ Some x)
some_entry x y = (λ is. ap Some (sym is), λ is. sym (same_Some y x is))

-- What is made of the record that is held, if one is.
held_entry : (told : Record → Entry) (found : Option Record) (made : Entry)
    → ((held : Record) × (found ≡ Some held) × (made ≡ told held)) ↔ (option_map told found ≡ Some made)
held_entry told None made = (λ is. absurd (none-some is.0 is.1), λ is. absurd (none-some made is))
held_entry told (Some held) made = (
  λ is. ap (option_map told) is.1 ∙ ap Some (sym is.2),
  λ is. (held, refl, sym (same_Some (told held) made is)),
)

pub entry_made : (edit : Edit) (state : State) (made : Entry) → Makes edit state made ↔ (entry_of edit state ≡ Some made)
entry_made (edit.Create stamp content) state made = some_entry made _
entry_made (edit.Alter stamp id content) state made = some_entry made _
entry_made (edit.Delete stamp id) state made = held_entry _ _ made
entry_made (edit.BeginEpoch epoch) state made = some_entry made _
entry_made (edit.Trim first) state made = some_entry made _

-- ---- the entry by the book before the change

pub book_entry_is_made : BookEntryIsMade
book_entry_is_made edit book made makes =
    sym (ap (λ (found : Option Entry). unwrap_or found (entry.Trim 0)) ((entry_made edit (book_state book) made).0 makes))

-- At a chronicle that the book represented.
pub book_entry_at : (edit : Edit) (book : BookView) (chronicle : Chronicle) (made : Entry) → Stands book chronicle → Makes edit (state_of chronicle) made → made ≡ book_entry edit book
book_entry_at edit book chronicle made stands makes =
    book_entry_is_made edit book made (subst (λ (state : State). Makes edit state made) (sym (state_same book chronicle stands)) makes)

pub book_entry_is_entered : BookEntryIsEntered
book_entry_is_entered edit old new changed chronicle stands entered =
    let same : entered.1.0 ≡ book_entry edit old = book_entry_at edit old chronicle entered.1.0 stands entered.1.1 in (
      subst (λ (x : Entry). Makes edit (state_of chronicle) x) same entered.1.1,
      subst (λ (x : Entry). Stands new (extended chronicle (x ∷ []))) same entered.1.2,
    )
