-- The records that are gone after some events (RFC 8412, section 3.7).
use Rattle.std.specs.Prelude.{◌≡◌, ℕ, Bool, false, not, List, Option, Some, None, filter}
use Rattle.std.specs.BTreeSet.{BTreeSet, contains}
use Rattle.std.specs.Ordering.{nat_cmp}
use Rattle.swima_model.specs.declared.event.Event.{Event}
use Rattle.swima_model.specs.declared.record.Record.{Record}
use Rattle.swima_model.specs.Live.{is_deletion, last_mention}

-- The last mention of a record is a deletion.
abbrev pub is_gone : Option Event → Bool
is_gone None = false
is_gone (Some event) = is_deletion event.action

-- These are the identifiers of the records that are gone after the events.
abbrev pub AreGone : List Event → BTreeSet ℕ → Type 0
AreGone events gone = (id : ℕ) → contains nat_cmp gone id ≡ is_gone (last_mention id events)

-- The records except those that are gone.
abbrev pub kept : (ℕ → Bool) → List Record → List Record
kept gone records = filter (λ (r : Record). not (gone r.id)) records
