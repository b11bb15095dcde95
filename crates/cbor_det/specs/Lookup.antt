-- The pairs of a map by their place, and by a key.
use Rattle.std.specs.Prelude.{ℕ, zero, suc, ◌==◌, Bool, false, pos, negsuc, List, Option, Some, None, if◌then◌else◌}
use Rattle.std.specs.List.{list_any}
use Rattle.cbor_det.specs.Term.{Term, Pairs, integer, octets, text, array, map, tagged, boolean, no_pairs, pair}

abbrev pub key_at : Pairs → ℕ → Option Term
key_at no_pairs place = None
key_at (pair k v ps) zero = Some k
key_at (pair k v ps) (suc place) = key_at ps place

abbrev pub value_at : Pairs → ℕ → Option Term
value_at no_pairs place = None
value_at (pair k v ps) zero = Some v
value_at (pair k v ps) (suc place) = value_at ps place

-- The item is this unsigned integer.
abbrev pub is_unsigned : ℕ → Term → Bool
is_unsigned n (integer (pos m)) = m == n
is_unsigned n (integer (negsuc m)) = false
is_unsigned n (octets s) = false
is_unsigned n (text s) = false
is_unsigned n (array ts) = false
is_unsigned n (map ps) = false
is_unsigned n (tagged m t) = false
is_unsigned n (boolean b) = false

-- the value under the key that is this unsigned integer
abbrev pub value_under : ℕ → Pairs → Option Term
value_under n no_pairs = None
value_under n (pair k v ps) = if is_unsigned n k then Some v else value_under n ps

-- The item is one of these unsigned integers.
abbrev pub is_one_of : List ℕ → Term → Bool
is_one_of ns t = list_any (λ n. is_unsigned n t) ns

-- the pairs whose keys are none of these, as they stand
abbrev pub other_than : List ℕ → Pairs → Pairs
other_than ns no_pairs = no_pairs
other_than ns (pair k v ps) = if is_one_of ns k then other_than ns ps else pair k v (other_than ns ps)
