-- What was read is held, and no call failed.
use Rattle.std.proofs.Common.{◌≡◌, ℕ, ◌+◌, ◌-◌, length, List}
use Rattle.source_lines.specs.Lines.{Holds, MOST_OCTETS}
use Rattle.source_lines.proofs.line_source.LineSource.read_item.Given as goal

abbrev pub invariant-loop-len : goal.invariant-loop-len
invariant-loop-len g l = record {
  held : (more : List ℕ) × Holds g.S.Source.left l.fn.self l.self more;
  calm : g.S.Source.faults l.self.input ≡ g.S.Source.faults l.fn.self.input;
}

abbrev pub decreases-loop-len : goal.decreases-loop-len
decreases-loop-len g l = MOST_OCTETS + 1 - length l.self.held
