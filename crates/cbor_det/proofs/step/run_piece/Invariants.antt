-- What was read, and what is left of the piece, are the whole run.
use Rattle.std.proofs.Common.{◌≡◌, ◌+◌, ◌-◌, ◌≤◌, length, drop}
use Rattle.cbor_det.specs.Machine.{run}
use Rattle.cbor_det.specs.Standing.{place}
use Rattle.cbor_det.specs.Frames.{phase_state, Fits}
use Rattle.cbor_det.proofs.step.run_piece.Given as goal

abbrev pub invariant-loop-used : goal.invariant-loop-used
invariant-loop-used l = record {
  ran : run l.limits l.taken (phase_state (place l.initial.stack.items) l.initial.phase) l.piece ≡ run l.limits (l.taken + l.used) (phase_state (place l.stack.items) l.phase) (drop l.used l.piece);
  within : l.used ≤ length l.piece;
  fits : Fits l.phase;
}

abbrev pub decreases-loop-used : goal.decreases-loop-used
decreases-loop-used l = length l.piece - l.used
