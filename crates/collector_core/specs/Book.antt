-- What is true of each book.
use Rattle.std.specs.Prelude.{◌≡◌, ◌≤◌, ◌+◌, ℕ, false, List, [], ◌∷◌, ◌++◌}
use Rattle.std.specs.List.Sorted.{IsStrictlyIncreasing}
use Rattle.swima_model.specs.declared.record.Content.{Content}
use Rattle.swima_model.specs.declared.record.Record.{Record}
use Rattle.swima_model.specs.InOrder.{ids}
use Rattle.swima_model.specs.Size.{MOST_RECORDS_OCTETS, are_large, content_octets, records_octets}
use Rattle.collector_core.specs.Refusals.{others_than}

-- The identifiers of its records rise, and the next is above them; the octets are counted, and the
-- records are not too many.
pub record IsBook (next octets : ℕ) (records : List Record) : Type 0 where
  pub rising : IsStrictlyIncreasing (ids records ++ next ∷ [])
  pub counted : octets ≡ records_octets records
  pub fits : are_large records ≡ false

-- With this content in place of that of the record of an identifier, the records have that many
-- octets, and not too many.
abbrev pub IsExchange : List Record → ℕ → Content → ℕ → Type 0
IsExchange records id content octets =
    (octets ≤ MOST_RECORDS_OCTETS) × (octets ≡ records_octets (others_than id records) + content_octets content)
