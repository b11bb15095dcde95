-- How many octets, elements or pairs the longest part of a map has that is taken apart, and put
-- together again.
use Rattle.std.proofs.Common.{◌≡◌, ◌≤◌, ◌+◌, ℕ, max, Bool, true, false, List, Some, if◌then◌else◌, refl, subst, arith, inl, inr}
use Rattle.cbor_det.specs.Adding.{is_above, put}
use Rattle.cbor_det.specs.Lookup.{is_unsigned, value_under, is_one_of, other_than}
use Rattle.cbor_det.specs.Term.{Term, Pairs, no_pairs, pair, pair_count}
use Rattle.cbor_det.proofs.Counts.{most, pairs_most}
use Rattle.coswid_codec.proofs.Fields.{found_by}

-- what stands under a key
pub under_most : (k : ℕ) (ps : Pairs) (t : Term) (n : ℕ) → value_under k ps ≡ Some t → pairs_most ps ≤ n → most t ≤ n
under_most k no_pairs t n e le = absurd cc
under_most k (pair l w ps) t n e le =
    let d : max (most l) (max (most w) (pairs_most ps)) ≤ n = le in
    elim (found_by (is_unsigned k l) k w t (value_under k ps) e) [
      | inl is ↦ let P : Term → Type 0 = λ u. most u ≤ n in subst P is (omega (arith, d))
      | inr rest ↦ under_most k ps t n rest (omega (arith, d))
    ]

-- the other pairs

others_count_by : (b : Bool) (l w : Term) (qs : Pairs) (n : ℕ) → pair_count qs ≤ n → pair_count (if b then qs else pair l w qs) ≤ n + 1
others_count_by true l w qs n le = omega (arith, le)
others_count_by false l w qs n le = omega (arith, le)

pub others_count : (ns : List ℕ) (ps : Pairs) → pair_count (other_than ns ps) ≤ pair_count ps
others_count ns no_pairs = omega arith
others_count ns (pair l w ps) = others_count_by (is_one_of ns l) l w (other_than ns ps) (pair_count ps) (others_count ns ps)

others_most_by : (b : Bool) (l w : Term) (qs : Pairs) (n : ℕ) → most l ≤ n → most w ≤ n → pairs_most qs ≤ n → pairs_most (if b then qs else pair l w qs) ≤ n
others_most_by true l w qs n key value le = le
others_most_by false l w qs n key value le = omega (arith, key, value, le)

pub others_most : (ns : List ℕ) (ps : Pairs) (n : ℕ) → pairs_most ps ≤ n → pairs_most (other_than ns ps) ≤ n
others_most ns no_pairs n le = le
others_most ns (pair l w ps) n le =
    let d : max (most l) (max (most w) (pairs_most ps)) ≤ n = le in
    others_most_by (is_one_of ns l) l w (other_than ns ps) n (omega (arith, d)) (omega (arith, d)) (others_most ns ps n (omega (arith, d)))

-- one pair more

put_count_by : (b : Bool) (k v l w : Term) (ps qs : Pairs) → pair_count qs ≡ pair_count ps + 1 → pair_count (if b then pair l w qs else pair k v (pair l w ps)) ≡ pair_count (pair l w ps) + 1
put_count_by true k v l w ps qs e = omega (arith, e)
put_count_by false k v l w ps qs e = refl

pub put_count : (k v : Term) (ps : Pairs) → pair_count (put k v ps) ≡ pair_count ps + 1
put_count k v no_pairs = refl
put_count k v (pair l w ps) = put_count_by (is_above k l) k v l w ps (put k v ps) (put_count k v ps)

put_most_by : (b : Bool) (n : ℕ) (k v l w : Term) (ps qs : Pairs) → most k ≤ n → most v ≤ n → pairs_most (pair l w ps) ≤ n → pairs_most qs ≤ n
    → pairs_most (if b then pair l w qs else pair k v (pair l w ps)) ≤ n
put_most_by true n k v l w ps qs key value le rest = let d : max (most l) (max (most w) (pairs_most ps)) ≤ n = le in omega (arith, d, rest)
put_most_by false n k v l w ps qs key value le rest = let d : max (most l) (max (most w) (pairs_most ps)) ≤ n = le in omega (arith, key, value, d)

pub put_most : (n : ℕ) (k v : Term) (ps : Pairs) → most k ≤ n → most v ≤ n → pairs_most ps ≤ n → pairs_most (put k v ps) ≤ n
put_most n k v no_pairs key value le = omega (arith, key, value)
put_most n k v (pair l w ps) key value le =
    let d : max (most l) (max (most w) (pairs_most ps)) ≤ n = le in
    put_most_by (is_above k l) n k v l w ps (put k v ps) key value le (put_most n k v ps key value (omega (arith, d)))
