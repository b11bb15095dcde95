-- The spelling of a map whose pairs come from two places: some under numbers that rise, and others
-- as they stand. RFC 8949, section 4.2.1.
use Rattle.std.specs.Prelude.{ℕ, zero, suc, ◌+◌, pos, List, [], ◌∷◌, ◌++◌, Option, Some, None, Bool, true, ◌&&◌, if◌then◌else◌}
use Rattle.cbor_det.specs.Adding.{is_above, put}
use Rattle.cbor_det.specs.Canonical.{canon, canon_pairs}
use Rattle.cbor_det.specs.Term.{Term, Pairs, integer, no_pairs, pair}

-- the pairs from a place on
abbrev pub from : ℕ → Pairs → Pairs
from zero ps = ps
from (suc place) no_pairs = no_pairs
from (suc place) (pair k v ps) = from place ps

-- the pairs before the first whose key is not below this number
abbrev pub below : ℕ → Pairs → Pairs
below n no_pairs = no_pairs
below n (pair k v ps) = if is_above (integer (pos n)) k then pair k v (below n ps) else no_pairs

-- the pairs from the first whose key is not below this number on
abbrev pub after_below : ℕ → Pairs → Pairs
after_below n no_pairs = no_pairs
after_below n (pair k v ps) = if is_above (integer (pos n)) k then after_below n ps else pair k v ps

-- What stands under a number, if anything does.
abbrev pub Row : Type 0
Row = ℕ × Option Term

-- the pairs with what stands under the number among them
abbrev pub put_row : Row → Pairs → Pairs
put_row (n, None) ps = ps
put_row (n, Some t) ps = put (integer (pos n)) t ps

abbrev pub put_rows : List Row → Pairs → Pairs
put_rows [] ps = ps
put_rows (row ∷ rows) ps = put_rows rows (put_row row ps)

-- how many rows hold something
abbrev pub size : Option Term → ℕ
size None = 0
size (Some t) = 1

abbrev pub present : List Row → ℕ
present [] = 0
present (row ∷ rows) = size row.1 + present rows

-- what is spelled of the rows and of the other pairs, before each row those that are below it
abbrev pub laid : List Row → Pairs → List ℕ
laid [] ps = canon_pairs ps
laid ((n, None) ∷ rows) ps = laid rows ps
laid ((n, Some t) ∷ rows) ps = canon_pairs (below n ps) ++ (canon (integer (pos n)) ++ canon t ++ laid rows (after_below n ps))

-- whether the number is below those of all rows
abbrev pub is_below_rows : ℕ → List Row → Bool
is_below_rows n [] = true
is_below_rows n (row ∷ rows) = is_above (integer (pos row.0)) (integer (pos n)) && is_below_rows n rows

-- whether the numbers of the rows rise
abbrev pub rise : List Row → Bool
rise [] = true
rise (row ∷ rows) = is_below_rows row.0 rows && rise rows
