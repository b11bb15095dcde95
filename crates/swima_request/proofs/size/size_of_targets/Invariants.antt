use Rattle.std.proofs.Common.{◌≡◌, ◌+◌, ◌-◌, ◌^◌, ℕ, List, length, min, take}
use Rattle.std.specs.List.{sum_by}
use Rattle.swima_request.proofs.size.size_of_targets.Given as goal

abbrev pub invariant-loop-target : goal.invariant-loop-target
invariant-loop-target l = l.size ≡ min (sum_by (λ (target : List ℕ). 2 + length target) (take l.target-index l.target-items)) (2 ^ 64 - 1)
