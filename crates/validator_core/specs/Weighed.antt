-- What a mirror has: its records, and how many octets they have together.
use Rattle.std.specs.Prelude.{◌≡◌, ◌≤◌, ◌^◌, ℕ, List, length}
use Rattle.std.specs.List.Sorted.{IsStrictlyIncreasing}
use Rattle.swima_model.specs.declared.record.Record.{Record}
use Rattle.swima_model.specs.InOrder.{ids}
use Rattle.swima_model.specs.Size.{records_octets}

-- The records are in order of identifier and few, and have that many octets together.
pub record AreWeighed (records : List Record) (octets : ℕ) : Type 0 where
  pub rising : IsStrictlyIncreasing (ids records)
  pub few : length records ≤ 65536
  pub counted : octets ≡ records_octets records
  pub within : octets ≤ 2 ^ 40
