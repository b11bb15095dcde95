-- Counts of faults that take in those of another object.
use Rattle.std.proofs.Common.{◌≡◌, ℕ, ◌+◌, ◌-◌, ◌^◌, ◌≤◌, Bool, true, false, arith, min, nat_lt}
use Rattle.std.proofs.lemmas.Bool.{ltb-false, ltb-true}
use Rattle.wire_base.specs.Outside.{HasCause}

-- A count that takes in `more` faults rises exactly where there are some.
pub takes_in : (faulted : Bool) (before after more : ℕ) → nat_lt 0 more ≡ faulted → before ≤ after → after ≡ min (before + more) (2 ^ 64 - 1) → HasCause before after faulted
takes_in true before after more some later sum = record { later = later; cause = omega (arith, ltb-true 0 more some, sum) }
takes_in false before after more none later sum = record { later = later; cause = omega (arith, ltb-false 0 more none, later, sum) }
