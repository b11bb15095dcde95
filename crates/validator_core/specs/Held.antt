-- What a mirror holds of one collector's inventory. RFC 8412 leaves it to the validator; the words
-- are our own.
use Rattle.std.specs.Prelude.{Bool, false, List, [], Option, None}
use Rattle.swima_model.specs.declared.record.Record.{Record}
use Rattle.swima_model.specs.declared.report.Kind.{Kind}
use Rattle.swima_model.specs.declared.report.Point.{Point}

-- What a mirror holds: the kind of the reports that it takes, the point at which its records stood
-- (none before the first inventory), and the records in order of identifier. The mark says that it
-- has met a report which does not fit what it holds.
pub record Held : Type 0 where
  pub kind : Kind
  pub point : Option Point
  pub records : List Record
  pub off : Bool

-- A mirror that holds nothing.
abbrev pub empty_mirror : Kind → Held
empty_mirror kind = record { kind = kind; point = None; records = []; off = false }
