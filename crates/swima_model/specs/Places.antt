-- Where a record stands among records.
use Rattle.std.specs.Prelude.{◌≡◌, ℕ, List, ◌∷◌, ◌++◌, Option, Some, None, length}
use Rattle.swima_model.specs.declared.record.Record.{Record}
use Rattle.swima_model.specs.Live.{record_of}

-- The place at which the record of an identifier stands among the records, or `None` where there is
-- none.
abbrev pub IsPlaceOf : List Record → ℕ → Option ℕ → Type 0
IsPlaceOf records id None = record_of id records ≡ None
IsPlaceOf records id (Some place) =
    (before : List Record) × (held : Record) × (after : List Record) × (records ≡ before ++ held ∷ after) × (place ≡ length before)
    × (held.id ≡ id)
