-- What the event of a deletion carries: the content of the record that goes, so that it can be
-- compared with what is held. That a body may be left out, and then counts as equal, is our own.
use Rattle.std.specs.Prelude.{◌≡◌, ◌==◌, ◌&&◌, ◌||◌, ◌⊎◌, ◌↔◌, ℕ, Bool, true, List, [], ◌∷◌}
use Rattle.std.specs.Str.{bytes_eq}
use Rattle.swima_model.specs.declared.record.Content.{Content}

-- The content that is carried is the one that is held, or that one with an empty body.
abbrev pub Carries : Content → Content → Type 0
Carries held carried = (carried ≡ held) ⊎ (carried ≡ record held { body = [] })

-- There is no octet.
abbrev pub is_empty : List ℕ → Bool
is_empty octets = bytes_eq octets []

-- The same as a test, field by field.
abbrev pub carries : Content → Content → Bool
carries held carried =
    (carried.model.pen == held.model.pen) && (carried.model.kind == held.model.kind) && (carried.source == held.source)
    && bytes_eq carried.ident held.ident && bytes_eq carried.locator held.locator && (is_empty carried.body || bytes_eq carried.body held.body)

-- The test is true exactly there.
abbrev pub CarriesIsTested : Type 0
CarriesIsTested = (held carried : Content) → (carries held carried ≡ true) ↔ Carries held carried
