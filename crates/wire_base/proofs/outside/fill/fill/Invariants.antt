-- What is held is what was held and what was moved so far.
use Rattle.std.proofs.Common.{◌≡◌, ◌++◌, ◌-◌, ◌≤◌, List, ℕ, length}
use Rattle.wire_base.specs.Outside.{Moves}
use Rattle.wire_base.proofs.outside.fill.fill.Given as goal

abbrev pub invariant-loop-buf : goal.invariant-loop-buf
invariant-loop-buf g l = record {
  moved : (more : List ℕ) × (l.held ≡ l.fn.held ++ more) × Moves (g.S.Source.left l.fn.input) (g.S.Source.left l.input) more;
  within : length l.held ≤ l.want;
  calm : g.S.Source.faults l.input ≡ g.S.Source.faults l.fn.input;
}

abbrev pub decreases-loop-buf : goal.decreases-loop-buf
decreases-loop-buf g l = l.want - length l.held
