-- What is answered where a pair is added to the pairs of a map, and the pairs afterwards.
use Rattle.std.specs.Prelude.{◌≡◌, Contains, Bool, true, false, if◌then◌else◌, Result, Ok, Err}
use Rattle.std.specs.Ordering.{nat_cmp, match_ordering}
use Rattle.std.specs.Cmp.Lexicographic.{slice_cmp}
use Rattle.cbor_det.specs.declared.pairs.PairRefused.{PairRefused}
use Rattle.cbor_det.specs.declared.pairs.PairRefused.TheVariants as refused
use Rattle.cbor_det.specs.Term.{Term, Pairs, no_pairs, pair}
use Rattle.cbor_det.specs.Canonical.{canon}
use Rattle.cbor_det.specs.Spelling.{PutsIn}
use Rattle.cbor_det.specs.Faults.{keys}

-- The key was not held, and the pairs are as before with this one among them; or they are as
-- before, `Doubled` exactly where the key was held.
abbrev pub IsAdded : {A : Type 0} → Term → Term → Result A PairRefused → Pairs → Pairs → Type 0
IsAdded k v (Ok done) before after = (¬ Contains (keys before) (canon k)) × PutsIn k v before after
IsAdded k v (Err refused.Doubled) before after = Contains (keys before) (canon k) × (after ≡ before)
IsAdded k v (Err refused.Memory) before after = after ≡ before

-- The first key's canonical spelling is above the second's.
abbrev pub is_above : Term → Term → Bool
is_above k l = match_ordering (slice_cmp nat_cmp (canon k) (canon l)) false false true

-- the pairs with one more, before the first whose key is not below its own
abbrev pub put : Term → Term → Pairs → Pairs
put k v no_pairs = pair k v no_pairs
put k v (pair l w ps) = if is_above k l then pair l w (put k v ps) else pair k v (pair l w ps)
