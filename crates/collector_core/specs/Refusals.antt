-- When a change is refused, and with which numbers: the first line that holds.
use Rattle.std.specs.Prelude.{◌==◌, ◌+◌, ◌-◌, ◌^◌, ℕ, not, is_some, List, length, Option, Some, None, filter, nat_le, nat_lt, if◌then◌else◌}
use Rattle.std.specs.List.{sum_by}
use Rattle.swima_model.specs.declared.record.Content.{Content}
use Rattle.swima_model.specs.declared.record.Record.{Record}
use Rattle.swima_model.specs.Live.{record_of}
use Rattle.swima_model.specs.Size.{MOST_RECORDS, MOST_RECORDS_OCTETS, content_octets, records_octets}
use Rattle.collector_core.specs.declared.error.BookError.{BookError}
use Rattle.collector_core.specs.declared.error.BookError.TheVariants as refused

-- The last number of four octets. As an event identifier it is the last; as a record identifier it
-- is never given.
abbrev pub LAST : ℕ
LAST = 2 ^ 32 - 1

-- A book with these contents.
abbrev pub new_refusal : List Content → Option BookError
new_refusal contents =
    if nat_lt MOST_RECORDS (length contents) then Some (refused.RecordsFull MOST_RECORDS)
    else if nat_lt MOST_RECORDS_OCTETS (sum_by content_octets contents) then Some (refused.BytesFull 0 (sum_by content_octets contents))
    else None

-- A further record of this content, after a last event identifier, before the next record
-- identifier, where these are live.
abbrev pub create_refusal : ℕ → ℕ → List Record → Content → Option BookError
create_refusal last next records content =
    if last == LAST then Some (refused.EidsSpent last)
    else if next == LAST then Some (refused.IdsSpent next)
    else if nat_le MOST_RECORDS (length records) then Some (refused.RecordsFull MOST_RECORDS)
    else if nat_lt MOST_RECORDS_OCTETS (records_octets records + content_octets content)
    then Some (refused.BytesFull (records_octets records) (content_octets content))
    else None

-- The records but that of an identifier.
abbrev pub others_than : ℕ → List Record → List Record
others_than id records = filter (λ (r : Record). not (r.id == id)) records

-- Another content of the record of this identifier.
abbrev pub alter_refusal : ℕ → List Record → ℕ → Content → Option BookError
alter_refusal last records id content =
    if last == LAST then Some (refused.EidsSpent last)
    else if not (is_some (record_of id records)) then Some (refused.UnknownRecord id)
    else if nat_lt MOST_RECORDS_OCTETS (records_octets (others_than id records) + content_octets content)
    then Some (refused.BytesFull (records_octets (others_than id records)) (content_octets content))
    else None

-- The end of the record of this identifier.
abbrev pub delete_refusal : ℕ → List Record → ℕ → Option BookError
delete_refusal last records id =
    if last == LAST then Some (refused.EidsSpent last)
    else if not (is_some (record_of id records)) then Some (refused.UnknownRecord id)
    else None

-- An epoch of this number, after the latest.
abbrev pub epoch_refusal : ℕ → ℕ → Option BookError
epoch_refusal latest given = if nat_le given latest then Some (refused.EpochNotNew latest given) else None

-- A trim to this event identifier.
abbrev pub trim_refusal : ℕ → ℕ → Option BookError
trim_refusal last given = if nat_lt (last + 1) given then Some (refused.TrimPast last given) else None
