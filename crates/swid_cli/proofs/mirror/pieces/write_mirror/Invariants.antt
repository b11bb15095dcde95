-- What was written so far are the first line and the lines of the records before a place.
use Rattle.std.proofs.Common.{◌≡◌, ◌-◌, ◌≤◌}
use Rattle.wire_base.specs.Outside.{Adds}
use Rattle.swid_cli.proofs.Pieces.{so_far}
use Rattle.swid_cli.proofs.mirror.pieces.write_mirror.Given as goal

abbrev pub invariant-loop-start : goal.invariant-loop-start
invariant-loop-start g l = record {
  added : Adds (g.K.Sink.written l.fn.output) (g.K.Sink.written l.output) (so_far l.start l.mirror);
  within : l.start ≤ l.count;
  output : g.K.Sink.faults l.output ≡ g.K.Sink.faults l.fn.output;
}

abbrev pub decreases-loop-start : goal.decreases-loop-start
decreases-loop-start g l = l.count - l.start
