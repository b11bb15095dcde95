-- Places of records, of which some are empty: what was there is removed, and no other record moves.
-- In a book's records at most a quarter of the places is empty.
use Rattle.std.specs.Prelude.{◌≡◌, ◌≤◌, ◌+◌, ◌*◌, ℕ, List, [], ◌∷◌, ◌++◌, Option, Some, None, length, nat_eq}
use Rattle.std.specs.Option.{option_to_list, unwrap_or}
use Rattle.std.specs.List.Sorted.{IsStrictlyIncreasing}
use Rattle.std.specs.Map.{keys_of, lookup, values_of}
use Rattle.swima_model.specs.declared.record.Content.{Content}
use Rattle.swima_model.specs.declared.record.Record.{Record}

-- The live records, and the identifier of the next.
pub record LiveView : Type 0 where
  pub next : ℕ
  pub records : List Record

-- A place: its identifier, and the record there; `None` where it was removed.
abbrev pub Place : Type 0
Place = ℕ × Option Record

-- The records among these, in their order.
abbrev pub present : List (Option Record) → List Record
present [] = []
present (held ∷ others) = option_to_list held ++ present others

-- The records at the places, in their order.
abbrev pub standing : List Place → List Record
standing places = present (values_of places)

-- What stands at the place of an identifier; `None` where it has no place.
abbrev pub held_at : ℕ → List Place → Option Record
held_at id places = unwrap_or (lookup (nat_eq id) places) None

-- The record, if there is one, has the identifier.
abbrev pub IsOwn : ℕ → Option Record → Type 0
IsOwn id None = Unit {0}
IsOwn id (Some held) = held.id ≡ id

-- Each record stands at the place of its identifier.
abbrev pub AreOwn : List Place → Type 0
AreOwn [] = Unit {0}
AreOwn (place ∷ others) = IsOwn place.0 place.1 × AreOwn others

-- The identifiers of the places rise, the next is above them, and that many places are empty.
pub record ArePlaces (next empty : ℕ) (places : List Place) : Type 0 where
  pub rising : IsStrictlyIncreasing (keys_of places ++ next ∷ [])
  pub own : AreOwn places
  pub counted : length (standing places) + empty ≡ length places

-- That many empty places are at most a quarter of all.
abbrev pub AreFewEmpty : ℕ → List Place → Type 0
AreFewEmpty empty places = empty * 4 ≤ length places

-- The record of the identifier was taken out, if there was one, and the others stay in their order.
abbrev pub Takes : ℕ → List Record → Option Record → List Record → Type 0
Takes id old None new = new ≡ old
Takes id old (Some taken) new =
    (before : List Record) × (after : List Record) × (old ≡ before ++ taken ∷ after) × (taken.id ≡ id) × (new ≡ before ++ after)

-- The record of the identifier has this content now.
abbrev pub Puts : ℕ → Content → List Record → List Record → Type 0
Puts id content old new =
    (before : List Record) × (held : Record) × (after : List Record) × (old ≡ before ++ held ∷ after) × (held.id ≡ id)
    × (new ≡ before ++ record { id = held.id; content = content } ∷ after)
