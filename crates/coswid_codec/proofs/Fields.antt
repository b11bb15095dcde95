-- The pairs of a map that is written: the extras, with the fields put in one by one.
use Rattle.std.proofs.Common.{◌≡◌, ◌⊎◌, ◌≤◌, ◌<◌, ◌==◌, ◌^◌, ℕ, max, Bool, true, false, pos, inl, inr, List, length, Option, Some, None, if◌then◌else◌, refl, sym, ap, ◌∙◌, subst, arith}
use Rattle.std.proofs.lemmas.Bool.{cond-true, cond-false, eqb-true, eq-eqb, or_from, or_parts, cases_Bool, both_ways}
use Rattle.std.specs.Ordering.{match_ordering}
use Rattle.std.specs.Str.{bytes_eq}
use Rattle.std.specs.declared.cmp.Ordering.{Ordering}
use Rattle.std.specs.declared.cmp.Ordering.TheVariants.{Less, Equal, Greater}
use Rattle.std.proofs.lemmas.Slice.Eq.{bytes_eq-Decides}
use Rattle.wire_base.proofs.Spelled.{length-octets_of}
use Rattle.cbor_det.specs.Adding.{is_above, put}
use Rattle.cbor_det.specs.Canonical.{Form, direct, one, two, four, eight, head, shortest, canon}
use Rattle.cbor_det.specs.Lookup.{is_unsigned, value_under, is_one_of, other_than}
use Rattle.cbor_det.specs.Machine.{is_held, insert}
use Rattle.cbor_det.specs.Proper.{IsProper, ArePairsProper, IsProperMap}
use Rattle.cbor_det.specs.Term.{Term, Pairs, integer, no_pairs, pair, depth, pairs_depth}
use Rattle.cbor_det.proofs.Order.{key_cmp, equal_keys, insert_puts, rises_insert}
use Rattle.cbor_det.proofs.Written.{canon_same, proper_puts}

abbrev pub number : ℕ → Term
number k = integer (pos k)

-- What stands under a key once a pair was put.

-- by a test that the put key passes, or does not
under_put_by : (b : Bool) (k j : ℕ) (v l w : Term) (ps : Pairs) → (j == k) ≡ false → value_under k (put (number j) v ps) ≡ value_under k ps
    → value_under k (if b then pair l w (put (number j) v ps) else pair (number j) v (pair l w ps)) ≡ value_under k (pair l w ps)
under_put_by true k j v l w ps not rest = ap (λ (o : Option Term). if is_unsigned k l then Some w else o) rest
under_put_by false k j v l w ps not rest = cond-false _ _ _ not

-- another key
pub under_other : (k j : ℕ) (v : Term) (ps : Pairs) → (j == k) ≡ false → value_under k (put (number j) v ps) ≡ value_under k ps
under_other k j v no_pairs not = cond-false _ _ _ not
under_other k j v (pair l w ps) not = under_put_by (is_above (number j) l) k j v l w ps not (under_other k j v ps not)

some_not_none : {A : Type 0} (t : Term) → Some t ≡ None → A
some_not_none {A} t e = absurd cc

-- What stands under a key stands in the first pair or after it.
pub found_by : (b : Bool) (k : ℕ) (w t : Term) (o : Option Term) → (if b then Some w else o) ≡ Some t → (w ≡ t) ⊎ (o ≡ Some t)
found_by true k w t o e = inl cc
found_by false k w t o e = inr e

-- Nothing stands under a key, so the first pair has another.
none_first : (b : Bool) (w : Term) (o : Option Term) → (if b then Some w else o) ≡ None → (b ≡ false) × (o ≡ None)
none_first true w o e = some_not_none w e
none_first false w o e = (refl, e)

under_this_by : (b : Bool) (k : ℕ) (v l w : Term) (ps : Pairs) → is_unsigned k l ≡ false → value_under k (put (number k) v ps) ≡ Some v
    → value_under k (if b then pair l w (put (number k) v ps) else pair (number k) v (pair l w ps)) ≡ Some v
under_this_by true k v l w ps not rest = cond-false _ _ _ not ∙ rest
under_this_by false k v l w ps not rest = cond-true _ _ _ (eq-eqb k k refl)

-- the key itself, which was not there
pub under_this : (k : ℕ) (v : Term) (ps : Pairs) → value_under k ps ≡ None → value_under k (put (number k) v ps) ≡ Some v
under_this k v no_pairs none = cond-true _ _ _ (eq-eqb k k refl)
under_this k v (pair l w ps) none =
    let parts = none_first (is_unsigned k l) w (value_under k ps) none in
    under_this_by (is_above (number k) l) k v l w ps parts.0 (under_this k v ps parts.1)

-- The others stay as they are.

others_put_by : (b : Bool) (ns : List ℕ) (j : ℕ) (v l w : Term) (ps : Pairs) → is_one_of ns (number j) ≡ true → other_than ns (put (number j) v ps) ≡ other_than ns ps
    → other_than ns (if b then pair l w (put (number j) v ps) else pair (number j) v (pair l w ps)) ≡ other_than ns (pair l w ps)
others_put_by true ns j v l w ps is rest = ap (λ (qs : Pairs). if is_one_of ns l then qs else pair l w qs) rest
others_put_by false ns j v l w ps is rest = cond-true _ _ _ is

pub others_put : (ns : List ℕ) (j : ℕ) (v : Term) (ps : Pairs) → is_one_of ns (number j) ≡ true → other_than ns (put (number j) v ps) ≡ other_than ns ps
others_put ns j v no_pairs is = cond-true _ _ _ is
others_put ns j v (pair l w ps) is = others_put_by (is_above (number j) l) ns j v l w ps is (others_put ns j v ps is)

again_by : (b : Bool) (ns : List ℕ) (l w : Term) (ps : Pairs) → is_one_of ns l ≡ b → other_than ns (other_than ns ps) ≡ other_than ns ps
    → other_than ns (if b then other_than ns ps else pair l w (other_than ns ps)) ≡ (if b then other_than ns ps else pair l w (other_than ns ps))
again_by true ns l w ps e rest = rest
again_by false ns l w ps e rest = cond-false _ _ _ e ∙ ap (λ (qs : Pairs). pair l w qs) rest

-- Those left out are left out.
pub others_again : (ns : List ℕ) (ps : Pairs) → other_than ns (other_than ns ps) ≡ other_than ns ps
others_again ns no_pairs = refl
others_again ns (pair l w ps) = again_by (is_one_of ns l) ns l w ps refl (others_again ns ps)

only_number : (k : ℕ) (t : Term) → is_unsigned k t ≡ true → t ≡ number k
only_number k (integer (pos m)) is = ap (λ (n : ℕ). number n) (eqb-true m k is)
only_number k t is = absurd cc

not_number : (ns : List ℕ) (k : ℕ) (l : Term) → is_one_of ns (number k) ≡ true → is_one_of ns l ≡ false → is_unsigned k l ≡ false
not_number ns k l known other = elim (cases_Bool (is_unsigned k l)) [
  | inl is ↦ absurd (both_ways _ other (ap (λ (t : Term). is_one_of ns t) (only_number k l is) ∙ known))
  | inr not ↦ not
]

none_by : (b : Bool) (ns : List ℕ) (k : ℕ) (l w : Term) (ps : Pairs) → is_one_of ns l ≡ b → is_one_of ns (number k) ≡ true → value_under k (other_than ns ps) ≡ None
    → value_under k (if b then other_than ns ps else pair l w (other_than ns ps)) ≡ None
none_by true ns k l w ps e known rest = rest
none_by false ns k l w ps e known rest = cond-false _ _ _ (not_number ns k l known e) ∙ rest

-- Nothing stands under a key that is left out.
pub others_none : (ns : List ℕ) (k : ℕ) (ps : Pairs) → is_one_of ns (number k) ≡ true → value_under k (other_than ns ps) ≡ None
others_none ns k no_pairs known = refl
others_none ns k (pair l w ps) known = none_by (is_one_of ns l) ns k l w ps refl known (others_none ns k ps known)

-- Proper pairs stay proper.

head_short : (form : Form) (n : ℕ) → length (head form 0 n) ≤ 9
head_short direct n = omega arith
head_short one n = omega (arith, length-octets_of 1 n)
head_short two n = omega (arith, length-octets_of 2 n)
head_short four n = omega (arith, length-octets_of 4 n)
head_short eight n = omega (arith, length-octets_of 8 n)

differs : (k : ℕ) (l : Term) → k < 2 ^ 63 → IsProper l → is_unsigned k l ≡ false → bytes_eq (canon (number k)) (canon l) ≡ false
differs k l small proper not = elim (cases_Bool (bytes_eq (canon (number k)) (canon l))) [
  | inl is ↦
      let short : length (canon (number k)) < 2 ^ 64 = omega (arith, head_short (shortest k) k) in
      let same : number k ≡ l = canon_same (number k) l small proper short ((bytes_eq-Decides (canon (number k)) (canon l)).0 is) in
      absurd (both_ways _ not (sym (ap (λ (t : Term). is_unsigned k t) same) ∙ eq-eqb k k refl))
  | inr other ↦ other
]

-- A key under which nothing stands is not held.
pub not_held : (k : ℕ) (ps : Pairs) → k < 2 ^ 63 → ArePairsProper ps → value_under k ps ≡ None → is_held ps (canon (number k)) ≡ false
not_held k no_pairs small proper none = refl
not_held k (pair l w ps) small proper none =
    let parts = none_first (is_unsigned k l) w (value_under k ps) none in
    or_from _ _ (differs k l small proper.0 parts.0) (not_held k ps small proper.2 parts.1)

put_by : (o : Ordering) (k v l w : Term) (ps : Pairs) → key_cmp k l ≡ o → bytes_eq (canon k) (canon l) ≡ false → put k v ps ≡ insert k v ps
    → (if match_ordering o false false true then pair l w (put k v ps) else pair k v (pair l w ps)) ≡ match_ordering o (pair k v (pair l w ps)) (pair k v ps) (pair l w (insert k v ps))
put_by Less k v l w ps e ne rest = refl
put_by Equal k v l w ps e ne rest = absurd (both_ways _ ne (equal_keys k l e))
put_by Greater k v l w ps e ne rest = ap (λ (qs : Pairs). pair l w qs) rest

pub put_is : (k v : Term) (ps : Pairs) → is_held ps (canon k) ≡ false → put k v ps ≡ insert k v ps
put_is k v no_pairs free = refl
put_is k v (pair l w ps) free =
    let parts = or_parts _ _ free in
    put_by (key_cmp k l) k v l w ps refl parts.0 (put_is k v ps parts.1)

pub put_proper : (k : ℕ) (v : Term) (ps : Pairs) → k < 2 ^ 63 → value_under k ps ≡ None → IsProper v → IsProperMap ps → IsProperMap (put (number k) v ps)
put_proper k v ps small none value proper =
    let free = not_held k ps small proper.1 none in
    let P : Pairs → Type 0 = λ qs. IsProperMap qs in
    subst P (sym (put_is (number k) v ps free)) (
      rises_insert (number k) v ps proper.0 free,
      proper_puts (number k) v ps (insert (number k) v ps) (insert_puts (number k) v ps free) proper.1 small value,
    )

below_by : (b : Bool) (n : ℕ) (k v l w : Term) (ps : Pairs) → depth k ≤ n → depth v ≤ n → pairs_depth (pair l w ps) ≤ n → pairs_depth (put k v ps) ≤ n
    → pairs_depth (if b then pair l w (put k v ps) else pair k v (pair l w ps)) ≤ n
below_by true n k v l w ps key value deep rest = let d : max (depth l) (max (depth w) (pairs_depth ps)) ≤ n = deep in omega (arith, d, rest)
below_by false n k v l w ps key value deep rest = let d : max (depth l) (max (depth w) (pairs_depth ps)) ≤ n = deep in omega (arith, key, value, d)

pub put_within : (n : ℕ) (k v : Term) (ps : Pairs) → depth k ≤ n → depth v ≤ n → pairs_depth ps ≤ n → pairs_depth (put k v ps) ≤ n
put_within n k v no_pairs key value deep = omega (arith, key, value)
put_within n k v (pair l w ps) key value deep =
    let d : max (depth l) (max (depth w) (pairs_depth ps)) ≤ n = deep in
    below_by (is_above k l) n k v l w ps key value deep (put_within n k v ps key value (omega (arith, d)))
