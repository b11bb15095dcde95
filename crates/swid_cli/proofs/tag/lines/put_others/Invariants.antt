-- The steps gone over stand after what stood there.
use Rattle.std.proofs.Common.{◌≡◌, ◌++◌, take}
use Rattle.std.specs.List.{flat_map}
use Rattle.swid_cli.specs.Tagging.{step_behind}
use Rattle.swid_cli.proofs.tag.lines.put_others.Given as goal

abbrev pub invariant-loop-step : goal.invariant-loop-step
invariant-loop-step l = l.out ≡ l.fn.out ++ flat_map step_behind (take l.step-index l.steps)
