-- The places of a pass's own entries rise.
use Rattle.std.proofs.Common.{◌≤◌, ◌+◌, ℕ, Bool, true, false, cond, List, [], ◌∷◌, arith}
use Rattle.collector_core.specs.declared.chronicle.Mark.{Mark}
use Rattle.book_lock.specs.Meaning.{OwnPlacesRise, RiseFrom}
use Rattle.book_lock.specs.Passes.{own_places_from}

by_own : (b : Bool) (low place : ℕ) (rest : List ℕ) → low ≤ place → RiseFrom (place + 1) rest → RiseFrom low rest → RiseFrom low (cond b (place ∷ rest) rest)
by_own true low place rest le own other = (le, own)
by_own false low place rest le own other = other

rise_from : (low place : ℕ) (seen : List Mark) → low ≤ place → RiseFrom low (own_places_from place seen)
rise_from low place [] le = tt
rise_from low place (m ∷ later) le = by_own m.own low place (own_places_from (place + 1) later) le
    (rise_from (place + 1) (place + 1) later (omega arith)) (rise_from low (place + 1) later (omega (arith, le)))

pub own_places_rise : OwnPlacesRise
own_places_rise pass = rise_from 0 0 pass.seen (omega arith)
