-- The lines before this one were played and printed.
use Rattle.std.proofs.Common.{◌-◌, ◌+◌, ◌≤◌}
use Rattle.session_script.specs.Played.{StandsFor}
use Rattle.session_script.specs.Replay.{Playing}
use Rattle.session_script.proofs.Scripting.{Reached}
use Rattle.session_script.proofs.script.play_on.Given as goal

abbrev pub invariant-loop-number : goal.invariant-loop-number
invariant-loop-number l = record {
  reached : (p : Playing) → StandsFor l.fn.playing p → Reached l.fn.goes_on p l.fn.octets l.playing (100001 - l.number) l.number l.rest l.out;
  changes : l.playing.changes + 2 ≤ l.number;
}
