-- The lines so far.
use Rattle.std.proofs.Common.{◌≡◌, take}
use Rattle.std.specs.List.{flat_map}
use Rattle.session_script.specs.Replay.{telling_line}
use Rattle.session_script.proofs.texts.told_text.Given as goal

abbrev pub invariant-loop-one : goal.invariant-loop-one
invariant-loop-one l = l.out ≡ flat_map telling_line (take l.one-index l.one-items)
