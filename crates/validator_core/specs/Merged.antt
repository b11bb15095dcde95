-- Records of two lists in order of identifier.
use Rattle.std.specs.Prelude.{◌==◌, ℕ, Bool, false, List, [], ◌∷◌, nat_lt, if◌then◌else◌}
use Rattle.swima_model.specs.declared.record.Record.{Record}

-- The first of the given records is below this identifier.
abbrev pub is_below : ℕ → List Record → Bool
is_below id [] = false
is_below id (g ∷ given) = nat_lt g.id id

-- It has this identifier.
abbrev pub first_is : ℕ → List Record → Bool
first_is id [] = false
first_is id (g ∷ given) = g.id == id

-- A record that is held and what follows it, with those that are given.
abbrev pub merged_from : Record → (List Record → List Record) → List Record → List Record
merged_from held later [] = held ∷ later []
merged_from held later (g ∷ given) =
    if nat_lt g.id held.id then g ∷ merged_from held later given
    else (if g.id == held.id then g ∷ later given else held ∷ later (g ∷ given))

-- The records that are held and those that are given, each list in order; of two with one
-- identifier the given one.
abbrev pub merged : List Record → List Record → List Record
merged [] given = given
merged (held ∷ later) given = merged_from held (merged later) given
