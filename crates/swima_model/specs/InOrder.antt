-- Records in order of their identifiers. A record identifier names a record within its endpoint
-- (RFC 8412, section 3.4.3); the order is our own.
use Rattle.std.specs.Prelude.{ℕ, List, map}
use Rattle.swima_model.specs.declared.record.Record.{Record}
use Rattle.swima_model.specs.ByNumber.{in_order_by}

-- The identifiers of records.
abbrev pub ids : List Record → List ℕ
ids records = map (λ (r : Record). r.id) records

-- The records in order of identifier, those of one identifier as they stood.
abbrev pub in_order : List Record → List Record
in_order records = in_order_by (λ (r : Record). r.id) records
