-- What is spelled from two places is the spelling of all pairs.
use Rattle.std.proofs.Common.{◌≡◌, ℕ, zero, suc, ◌+◌, ◌<◌, ◌≤◌, pos, List, [], ◌∷◌, ◌++◌, Some, None, Bool, true, false, if◌then◌else◌, length, get_or, drop, refl, sym, ap, ◌∙◌, subst, arith}
use Rattle.std.proofs.lemmas.Bool.{and_parts, both_ways, cond-true, cond-false}
use Rattle.std.proofs.lemmas.List.{append_assoc, append-nil, drop_all}
use Rattle.std.specs.Ordering.{match_ordering}
use Rattle.std.specs.Prelude.{Result}
use Rattle.std.specs.Result.{OnOk}
use Rattle.std.specs.declared.cmp.Ordering.{Ordering}
use Rattle.std.specs.declared.cmp.Ordering.TheVariants.{Less, Equal, Greater}
use Rattle.cbor_det.specs.declared.item.Pair.{Pair, out-Pair}
use Rattle.cbor_det.specs.declared.item.Pairs as code
use Rattle.cbor_det.specs.declared.item.Pairs.{out-Pairs}
use Rattle.cbor_det.specs.Adding.{is_above, put}
use Rattle.cbor_det.specs.Canonical.{canon, canon_pairs, short_head}
use Rattle.cbor_det.specs.Laid.{from, below, after_below, Row, put_row, put_rows, size, present, laid, is_below_rows, rise}
use Rattle.cbor_det.specs.Term.{Term, Pairs, integer, map, no_pairs, pair, pair_count}
use Rattle.cbor_det.specs.View.{view, listed, pairs_view}
use Rattle.cbor_det.proofs.Adds.{join, key_of}
use Rattle.cbor_det.proofs.Order.{key_cmp, below_trans, above, below as falls}
use Rattle.cbor_det.proofs.Under.{first}
use Rattle.cbor_det.proofs.Views.{count_view, view_pairs}

abbrev number : ℕ → Term
number n = integer (pos n)

greater_by : (o : Ordering) → match_ordering o false false true ≡ true → o ≡ Greater
greater_by Less e = absurd (both_ways _ refl e)
greater_by Equal e = absurd (both_ways _ refl e)
greater_by Greater e = refl

above_trans : (k l m : Term) → is_above k l ≡ true → is_above l m ≡ true → is_above k m ≡ true
above_trans k l m e f =
    ap (λ (o : Ordering). match_ordering o false false true)
    (above k m (below_trans m l k (falls l m (greater_by (key_cmp l m) f)) (falls k l (greater_by (key_cmp k l) e))))

-- The key is above those of all pairs.
abbrev IsOver : Term → Pairs → Type 0
IsOver k no_pairs = Unit {0}
IsOver k (pair l v ps) = (is_above k l ≡ true) × IsOver k ps

over_more : (k l : Term) (ps : Pairs) → is_above k l ≡ true → IsOver l ps → IsOver k ps
over_more k l no_pairs e over = tt
over_more k l (pair m v ps) e over = (above_trans k l m e over.0, over_more k l ps e over.1)

below_by : (b : Bool) (n : ℕ) (k v : Term) (ps : Pairs) → is_above (number n) k ≡ b → IsOver (number n) ps → IsOver (number n) (if b then pair k v ps else no_pairs)
below_by true n k v ps e over = (e, over)
below_by false n k v ps e over = tt

below_over : (n : ℕ) (ps : Pairs) → IsOver (number n) (below n ps)
below_over n no_pairs = tt
below_over n (pair k v ps) = below_by (is_above (number n) k) n k v (below n ps) refl (below_over n ps)

between_by : (b : Bool) (n : ℕ) (t k v : Term) (ps : Pairs) → put (number n) t ps ≡ join (below n ps) (pair (number n) t (after_below n ps))
    → (if b then pair k v (put (number n) t ps) else pair (number n) t (pair k v ps))
    ≡ join (if b then pair k v (below n ps) else no_pairs) (pair (number n) t (if b then after_below n ps else pair k v ps))
between_by true n t k v ps e = ap (λ (qs : Pairs). pair k v qs) e
between_by false n t k v ps e = refl

-- What is put among pairs stands between those below it and the others.
put_between : (n : ℕ) (t : Term) (ps : Pairs) → put (number n) t ps ≡ join (below n ps) (pair (number n) t (after_below n ps))
put_between n t no_pairs = refl
put_between n t (pair k v ps) = between_by (is_above (number n) k) n t k v ps (put_between n t ps)

put_past : (k t : Term) (xs ys : Pairs) → IsOver k xs → put k t (join xs ys) ≡ join xs (put k t ys)
put_past k t no_pairs ys over = refl
put_past k t (pair l w xs) ys over =
    ap (λ (b : Bool). if b then pair l w (put k t (join xs ys)) else pair k t (pair l w (join xs ys))) over.0
    ∙ ap (λ (qs : Pairs). pair l w qs) (put_past k t xs ys over.1)

row_past : (row : Row) (n : ℕ) (t : Term) (xs ys : Pairs) → is_above (number row.0) (number n) ≡ true → IsOver (number n) xs
    → put_row row (join xs (pair (number n) t ys)) ≡ join xs (pair (number n) t (put_row row ys))
row_past (m, None) n t xs ys e over = refl
row_past (m, Some s) n t xs ys e over =
    put_past (number m) s xs (pair (number n) t ys) (over_more (number m) (number n) xs e over)
    ∙ ap (λ (b : Bool). join xs (if b then pair (number n) t (put (number m) s ys) else pair (number m) s (pair (number n) t ys))) e

rows_past : (rows : List Row) (n : ℕ) (t : Term) (xs ys : Pairs) → is_below_rows n rows ≡ true → IsOver (number n) xs
    → put_rows rows (join xs (pair (number n) t ys)) ≡ join xs (pair (number n) t (put_rows rows ys))
rows_past [] n t xs ys under over = refl
rows_past (row ∷ rows) n t xs ys under over =
    let parts = and_parts (is_above (number row.0) (number n)) (is_below_rows n rows) under in
    ap (λ (qs : Pairs). put_rows rows qs) (row_past row n t xs ys parts.0 over) ∙ rows_past rows n t xs (put_row row ys) parts.1 over

canon_join : (xs ys : Pairs) → canon_pairs (join xs ys) ≡ canon_pairs xs ++ canon_pairs ys
canon_join no_pairs ys = refl
canon_join (pair k v xs) ys =
    ap (λ (s : List ℕ). canon k ++ canon v ++ s) (canon_join xs ys) ∙ sym (append_assoc (canon k ++ canon v) (canon_pairs xs) (canon_pairs ys))

laid_is : (rows : List Row) (ps : Pairs) → rise rows ≡ true → laid rows ps ≡ canon_pairs (put_rows rows ps)
laid_is [] ps rises = refl
laid_is ((n, None) ∷ rows) ps rises = laid_is rows ps (and_parts (is_below_rows n rows) (rise rows) rises).1
laid_is ((n, Some t) ∷ rows) ps rises =
    let parts = and_parts (is_below_rows n rows) (rise rows) rises in
    ap (λ (s : List ℕ). canon_pairs (below n ps) ++ (canon (number n) ++ canon t ++ s)) (laid_is rows (after_below n ps) parts.1)
    ∙ sym (canon_join (below n ps) (pair (number n) t (put_rows rows (after_below n ps))))
    ∙ ap (λ (qs : Pairs). canon_pairs qs) (sym (rows_past rows n t (below n ps) (after_below n ps) parts.0 (below_over n ps)))
    ∙ ap (λ (qs : Pairs). canon_pairs (put_rows rows qs)) (sym (put_between n t ps))

count_by : (b : Bool) (k v l w : Term) (ps : Pairs) → pair_count (put k v ps) ≡ pair_count ps + 1
    → pair_count (if b then pair l w (put k v ps) else pair k v (pair l w ps)) ≡ pair_count ps + 1 + 1
count_by true k v l w ps e = ap (λ (n : ℕ). n + 1) e
count_by false k v l w ps e = refl

put_count : (k v : Term) (ps : Pairs) → pair_count (put k v ps) ≡ pair_count ps + 1
put_count k v no_pairs = refl
put_count k v (pair l w ps) = count_by (is_above k l) k v l w ps (put_count k v ps)

row_count : (row : Row) (ps : Pairs) → pair_count (put_row row ps) ≡ pair_count ps + size row.1
row_count (n, None) ps = omega arith
row_count (n, Some t) ps = put_count (number n) t ps

rows_count : (rows : List Row) (ps : Pairs) → pair_count (put_rows rows ps) ≡ pair_count ps + present rows
rows_count [] ps = omega arith
rows_count (row ∷ rows) ps =
    let e = row_count row ps in
    let f = rows_count rows (put_row row ps) in
    omega (arith, e, f)

-- A map is written where its head has the number of all pairs, and these stand after it.
pub map_laid : (rows : List Row) (ps : Pairs) (n : ℕ) (start mid after : List ℕ) → rise rows ≡ true → n ≡ present rows → mid ≡ start ++ short_head 5 (pair_count ps + n)
    → after ≡ mid ++ laid rows ps → after ≡ start ++ canon (map (put_rows rows ps))
map_laid rows ps n start mid after rises count head all =
    let qs = put_rows rows ps in
    all
    ∙ ap (λ (s : List ℕ). s ++ laid rows ps) (head ∙ ap (λ (i : ℕ). start ++ short_head 5 i) (ap (λ (i : ℕ). pair_count ps + i) count ∙ sym (rows_count rows ps)))
    ∙ ap (λ (s : List ℕ). start ++ short_head 5 (pair_count qs) ++ s) (laid_is rows ps rises)
    ∙ append_assoc start (short_head 5 (pair_count qs)) (canon_pairs qs)

-- The pairs as the code holds them.

pub head_with : {T E : Type 0} (p : code.Pairs) (xs : List Pair) (more : ℕ) (r : Result T E) (start made : List ℕ) → xs ≡ (out-Pairs p).pairs
    → OnOk r (made ≡ start ++ short_head 5 (length xs + more)) → OnOk r (made ≡ start ++ short_head 5 (pair_count (pairs_view p) + more))
head_with p xs more r start made are =
    subst (λ (n : ℕ). OnOk r (made ≡ start ++ short_head 5 (n + more))) (ap (λ (ys : List Pair). length ys) are ∙ sym (count_view p))

pub from_listed : (i : ℕ) (xs : List Pair) → from i (listed xs) ≡ listed (drop i xs)
from_listed zero xs = refl
from_listed (suc i) [] = refl
from_listed (suc i) (x ∷ xs) = from_listed i xs

pub one_there : (xs : List Pair) (i : ℕ) (x y : Pair) → i < length xs → x ≡ get_or xs i x → y ≡ get_or xs i y → x ≡ y
one_there [] i x y lt at there = absurd (omega (arith, lt))
one_there (z ∷ zs) zero x y lt at there = at ∙ sym there
one_there (z ∷ zs) (suc i) x y lt at there = one_there zs i x y (omega (arith, lt)) at there

module _ (xs : List Pair) (i : ℕ) (x : Pair) (lt : i < length xs) (at : x ≡ get_or xs i x) where
  module _ (n : ℕ) (is : is_above (number n) (key_of x) ≡ true) where
    pub below_first : (out more : List ℕ) → more ≡ out ++ (canon (key_of x) ++ canon (view (out-Pair x).value))
        → more ++ canon_pairs (below n (listed (drop (i + 1) xs))) ≡ out ++ canon_pairs (below n (listed (drop i xs)))
    below_first out more e =
        let rest = below n (listed (drop (i + 1) xs)) in
        ap (λ (s : List ℕ). s ++ canon_pairs rest) e
        ∙ append_assoc out (canon (key_of x) ++ canon (view (out-Pair x).value)) (canon_pairs rest)
        ∙ ap (λ (ps : Pairs). out ++ canon_pairs ps) (sym (cond-true _ (pair (key_of x) (view (out-Pair x).value) rest) no_pairs is))
        ∙ ap (λ (ps : Pairs). out ++ canon_pairs (below n ps)) (sym (first xs i x lt at))

    pub after_first : after_below n (listed (drop (i + 1) xs)) ≡ after_below n (listed (drop i xs))
    after_first =
        sym (cond-true _ (after_below n (listed (drop (i + 1) xs))) (pair (key_of x) (view (out-Pair x).value) (listed (drop (i + 1) xs))) is)
        ∙ ap (λ (ps : Pairs). after_below n ps) (sym (first xs i x lt at))

  -- the first that is not below the number
  module _ (n : ℕ) (not : is_above (number n) (key_of x) ≡ false) where
    pub below_ends : below n (listed (drop i xs)) ≡ no_pairs
    below_ends = ap (λ (ps : Pairs). below n ps) (first xs i x lt at) ∙ cond-false _ (pair (key_of x) (view (out-Pair x).value) (below n (listed (drop (i + 1) xs)))) no_pairs not

    pub after_ends : after_below n (listed (drop i xs)) ≡ listed (drop i xs)
    after_ends =
        ap (λ (ps : Pairs). after_below n ps) (first xs i x lt at)
        ∙ cond-false _ (after_below n (listed (drop (i + 1) xs))) (pair (key_of x) (view (out-Pair x).value) (listed (drop (i + 1) xs))) not
        ∙ sym (first xs i x lt at)

-- where the loops over them end
module _ (p : code.Pairs) (xs : List Pair) (are : xs ≡ (out-Pairs p).pairs) (place : ℕ) where
  held : from place (pairs_view p) ≡ listed (drop place xs)
  held = ap (λ (ps : Pairs). from place ps) (view_pairs p ∙ ap (λ (ys : List Pair). listed ys) (sym are)) ∙ from_listed place xs

  pub all_put : (next : ℕ) (start made : List ℕ) → length xs ≤ next → made ++ canon_pairs (listed (drop next xs)) ≡ start ++ canon_pairs (listed (drop place xs))
      → made ≡ start ++ canon_pairs (from place (pairs_view p))
  all_put next start made ends put =
      sym (append-nil made) ∙ ap (λ (ys : List Pair). made ++ canon_pairs (listed ys)) (sym (drop_all next xs ends)) ∙ put
      ∙ ap (λ (ps : Pairs). start ++ canon_pairs ps) (sym held)

  pub below_put : (n next : ℕ) (start made : List ℕ) → below n (listed (drop next xs)) ≡ no_pairs
      → made ++ canon_pairs (below n (listed (drop next xs))) ≡ start ++ canon_pairs (below n (listed (drop place xs)))
      → made ≡ start ++ canon_pairs (below n (from place (pairs_view p)))
  below_put n next start made none put =
      sym (append-nil made) ∙ ap (λ (ps : Pairs). made ++ canon_pairs ps) (sym none) ∙ put ∙ ap (λ (ps : Pairs). start ++ canon_pairs (below n ps)) (sym held)

  pub after_left : (n next : ℕ) → after_below n (listed (drop next xs)) ≡ listed (drop next xs) → after_below n (listed (drop next xs)) ≡ after_below n (listed (drop place xs))
      → from next (pairs_view p) ≡ after_below n (from place (pairs_view p))
  after_left n next same left =
      ap (λ (ps : Pairs). from next ps) (view_pairs p ∙ ap (λ (ys : List Pair). listed ys) (sym are)) ∙ from_listed next xs ∙ sym same ∙ left
      ∙ ap (λ (ps : Pairs). after_below n ps) (sym held)

  pub none_left : (n next : ℕ) → length xs ≤ next → after_below n (listed (drop next xs)) ≡ after_below n (listed (drop place xs))
      → from (length xs) (pairs_view p) ≡ after_below n (from place (pairs_view p))
  none_left n next ends left =
      let all : length xs ≤ length xs = omega arith in
      ap (λ (ps : Pairs). from (length xs) ps) (view_pairs p ∙ ap (λ (ys : List Pair). listed ys) (sym are)) ∙ from_listed (length xs) xs
      ∙ ap (λ (ys : List Pair). listed ys) (drop_all (length xs) xs all)
      ∙ ap (λ (ys : List Pair). after_below n (listed ys)) (sym (drop_all next xs ends)) ∙ left ∙ ap (λ (ps : Pairs). after_below n ps) (sym held)

pub none_below : (n next : ℕ) (xs : List Pair) → length xs ≤ next → below n (listed (drop next xs)) ≡ no_pairs
none_below n next xs ends = ap (λ (ys : List Pair). below n (listed ys)) (drop_all next xs ends)
