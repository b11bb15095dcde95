-- The values read so far, and those still to be read, are what all of the count are read as.
use Rattle.std.proofs.Common.{◌≡◌, ◌-◌}
use Rattle.wire_base.specs.Reading.{several}
use Rattle.wire_base.proofs.Several.{with_front}
use Rattle.wire_base.proofs.layout.field_reader.read_several.Given as goal

abbrev pub invariant-loop : goal.invariant-loop
invariant-loop g l = with_front l.values (several (l.count - l.counter) (g.R.FieldReader.reading l.reader) l.cursor) ≡ several l.count (g.R.FieldReader.reading l.reader) l.fn.cursor
