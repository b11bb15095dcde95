use Rattle.std.proofs.Common.{◌≡◌, None, drop}
use Rattle.swima_model.proofs.Rises.{repeat_after}
use Rattle.validator_core.specs.Placed.{ids_of}
use Rattle.validator_core.proofs.doubled.doubled.Given as goal

abbrev pub invariant-loop-placed : goal.invariant-loop-placed
invariant-loop-placed l = repeat_after l.before (ids_of (drop l.placed-index l.places)) ≡ repeat_after None (ids_of l.places)
