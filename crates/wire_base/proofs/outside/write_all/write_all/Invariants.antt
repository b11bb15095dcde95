-- What is not written yet is the rest of the text.
use Rattle.std.proofs.Common.{◌≡◌, length}
use Rattle.wire_base.specs.Passing.{WroteFront}
use Rattle.wire_base.proofs.outside.write_all.write_all.Given as goal

abbrev pub invariant-loop-rest : goal.invariant-loop-rest
invariant-loop-rest g l = record {
  wrote : WroteFront (g.K.Sink.written l.fn.output) (g.K.Sink.written l.output) l.text l.rest;
  calm : g.K.Sink.faults l.output ≡ g.K.Sink.faults l.fn.output;
}

abbrev pub decreases-loop-rest : goal.decreases-loop-rest
decreases-loop-rest g l = length l.rest
