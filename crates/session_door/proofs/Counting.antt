-- Causes of faults, one call after another.
use Rattle.std.proofs.Common.{◌||◌, ℕ, Bool, true, false, refl, subst, le_trans, arith}
use Rattle.wire_base.specs.Outside.{HasCause}

pub calm : (count : ℕ) → HasCause count count false
calm count = record { later = omega arith; cause = refl }

pub cause_then : (a b c : ℕ) (first second : Bool) → HasCause a b first → HasCause b c second → HasCause a c (first || second)
cause_then a b c true second one two = record { later = le_trans one.later two.later; cause = le_trans one.cause two.later }
cause_then a b c false second one two = subst (λ (n : ℕ). HasCause n c second) one.cause two
