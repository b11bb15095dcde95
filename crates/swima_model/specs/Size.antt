-- How large records and reports are.
use Rattle.std.specs.Prelude.{◌+◌, ◌||◌, ℕ, Bool, List, length, nat_lt}
use Rattle.std.specs.List.{sum_by}
use Rattle.swima_model.specs.declared.event.Event.{Event}
use Rattle.swima_model.specs.declared.record.Content.{Content}
use Rattle.swima_model.specs.declared.record.Record.{Record}
use Rattle.swima_model.specs.declared.report.Kind.{Kind}
use Rattle.swima_model.specs.declared.report.Kind.TheVariants.{Ids, Full}
use Rattle.swima_model.specs.declared.report.Report.{Report}
use Rattle.swima_model.specs.declared.report.Report.TheVariants.{Inventory, Events}

-- The octets of a content: those of its identifier, its locator and its body.
abbrev pub content_octets : Content → ℕ
content_octets content = length content.ident + length content.locator + length content.body

-- The most octets of a content: 65,535 of an identifier, as many of a locator, and 1,048,576 of a
-- body.
abbrev pub MOST_CONTENT_OCTETS : ℕ
MOST_CONTENT_OCTETS = 1179646

-- The octets of records together.
abbrev pub records_octets : List Record → ℕ
records_octets records = sum_by (λ (r : Record). content_octets r.content) records

-- The most records of an inventory, and the most octets of them together.
abbrev pub MOST_RECORDS : ℕ
MOST_RECORDS = 65536

abbrev pub MOST_RECORDS_OCTETS : ℕ
MOST_RECORDS_OCTETS = 268435456

-- That many records, or that many octets of them, are more than an inventory has.
abbrev pub is_large : ℕ → ℕ → Bool
is_large count octets = nat_lt MOST_RECORDS count || nat_lt MOST_RECORDS_OCTETS octets

-- The records are.
abbrev pub are_large : List Record → Bool
are_large records = is_large (length records) (records_octets records)

-- ---- reports as attributes carry them

-- The octets of a body: none in reports of identifiers, else four that give its length, and the
-- body (RFC 8412, section 5.9).
abbrev pub body_size : Kind → List ℕ → ℕ
body_size Ids body = 0
body_size Full body = 4 + length body

-- The octets of a record: 14 of fixed width, its identifier and its locator, and its body
-- (sections 5.7 and 5.9).
abbrev pub record_size : Kind → Record → ℕ
record_size kind r = 14 + length r.content.ident + length r.content.locator + body_size kind r.content.body

-- The octets of an event: 4 of its event identifier, 20 of its moment, and its record (sections 5.8
-- and 5.10).
abbrev pub event_size : Kind → Event → ℕ
event_size kind event = 24 + record_size kind event.subject

-- The octets of a report: 16 before the records (sections 5.7 and 5.9), or 20 before the events
-- (sections 5.8 and 5.10).
abbrev pub report_size : Report → ℕ
report_size (Inventory kind fulfil id point records) = 16 + sum_by (record_size kind) records
report_size (Events kind fulfil id point consulted events) = 20 + sum_by (event_size kind) events

-- How many records or events a report has.
abbrev pub report_count : Report → ℕ
report_count (Inventory kind fulfil id point records) = length records
report_count (Events kind fulfil id point consulted events) = length events
