-- An open map, as the code keeps it: its pairs, and the key whose value is due, if one is.
use Rattle.std.specs.Prelude.{◌≡◌, ℕ, Bool, true, false, not, List, [], ◌∷◌, All, Option, Some, None}
use Rattle.std.specs.Coded.{Unit-prop, ×_prop}
use Rattle.std.specs.Ordering.{Ordering-set}
use Rattle.std.specs.declared.vec.Vec.{Vec}
use Rattle.std.specs.declared.alloc.Global.{Global}
use Rattle.cbor_det.specs.declared.item.Pair.{Pair, out-Pair}
use Rattle.cbor_det.specs.Term.{Term, Pairs, no_pairs, pair, pair_count}
use Rattle.cbor_det.specs.Canonical.{canon}
use Rattle.cbor_det.specs.Spelling.{IsBelow, Rises}
use Rattle.cbor_det.specs.Places.{AreBelow}
use Rattle.cbor_det.specs.Machine.{is_held, is_full, insert}
use Rattle.cbor_det.specs.View.{view}

-- In an ordered map they stand by their keys' canonical spellings.
abbrev pub Entry : Type 0
Entry = Vec ℕ Global × Pair

abbrev pub entries_view : List Entry → Pairs
entries_view [] = no_pairs
entries_view (e ∷ es) = pair (view (out-Pair e.1).key) (view (out-Pair e.1).value) (entries_view es)

-- Each entry stands under its key's canonical spelling.
abbrev pub AreSpelled : List Entry → Type 0
AreSpelled es = All (λ (e : Entry). e.0.items ≡ canon (view (out-Pair e.1).key)) es

-- What an open map makes of an item. Where no key is due it is a key: false where that is held, and
-- else its value is due. Where one is due it is the value of that key.
abbrev pub IsTaken : Pairs → Option Term → Term → Bool → Pairs → Option Term → Type 0
IsTaken ps None k free more next = (free ≡ not (is_held ps (canon k))) × (free ≡ true → (more ≡ ps) × (next ≡ Some k))
IsTaken ps (Some k) v free more next = (free ≡ true) × (more ≡ insert k v ps) × (next ≡ None)

-- The keys rise, up to the one whose value is due.
abbrev pub RisesTo : Pairs → Option Term → Type 0
RisesTo ps None = Rises ps
RisesTo ps (Some k) = Rises ps × AreBelow ps k

-- What rises is known in one way.
below_prop : (k : Term) (ps : Pairs) → IsProp (IsBelow k ps)
below_prop k no_pairs = Unit-prop
below_prop k (pair l v ps) = Ordering-set _ _

rises_prop : (ps : Pairs) → IsProp (Rises ps)
rises_prop no_pairs = Unit-prop
rises_prop (pair k v ps) = ×_prop (below_prop k ps) (rises_prop ps)

all_below_prop : (ps : Pairs) (k : Term) → IsProp (AreBelow ps k)
all_below_prop no_pairs k = Unit-prop
all_below_prop (pair l w ps) k = ×_prop (Ordering-set _ _) (all_below_prop ps k)

pub rises_to_prop : (ps : Pairs) (key : Option Term) → IsProp (RisesTo ps key)
rises_to_prop ps None = rises_prop ps
rises_to_prop ps (Some k) = ×_prop (rises_prop ps) (all_below_prop ps k)

-- The item is the value that is due, or a key above all others.
abbrev pub MayCome : Pairs → Option Term → Term → Type 0
MayCome ps None k = AreBelow ps k
MayCome ps (Some k) v = Unit {0}

-- An open map has all pairs that its head counts, and no key whose value is due.
abbrev pub is_whole : Option ℕ → Pairs → Option Term → Bool
is_whole all ps None = is_full all (pair_count ps)
is_whole all ps (Some k) = false
