-- What was printed so far, and what is left to be printed.
use Rattle.std.proofs.Common.{◌≡◌, ◌-◌, ◌≤◌}
use Rattle.swid_cli.proofs.Following.{Follows}
use Rattle.swid_cli.proofs.mirror.mirror.Given as goal

abbrev pub invariant-loop-mirror : goal.invariant-loop-mirror
invariant-loop-mirror g l = record {
  follows : Follows l.fn.kind (g.S.Source.left l.fn.input) (g.S.Source.left l.input) (g.K.Sink.written l.fn.output) (g.K.Sink.written l.output) l.at l.mirror;
  within : l.at ≤ 1073741824;
  input : g.S.Source.faults l.input ≡ g.S.Source.faults l.fn.input;
  output : g.K.Sink.faults l.output ≡ g.K.Sink.faults l.fn.output;
}

abbrev pub decreases-loop-mirror : goal.decreases-loop-mirror
decreases-loop-mirror g l = 1073741824 - l.at
