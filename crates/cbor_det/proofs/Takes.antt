-- A value taken out of a map, and what stands under the other keys of what is left.
use Rattle.std.proofs.Common.{◌≡◌, ℕ, zero, suc, ◌<◌, ◌≤◌, pos, negsuc, ◌==◌, List, [], ◌∷◌, length, get_or, drop, remove, Option, Some, None, Bool, true, false, ◌||◌, if◌then◌else◌, refl, sym, ap, ◌∙◌, subst, arith}
use Rattle.std.proofs.lemmas.Bool.{cond-true, or_left, eqb-true}
use Rattle.std.proofs.lemmas.Option.{none-some}
use Rattle.std.specs.List.{filter}
use Rattle.cbor_det.specs.declared.item.Item.TheViews.{roll-Pairs}
use Rattle.cbor_det.specs.declared.item.Pair.{Pair, out-Pair}
use Rattle.cbor_det.specs.declared.item.Pairs as code
use Rattle.cbor_det.specs.declared.item.Pairs.{out-Pairs}
use Rattle.cbor_det.specs.Lookup.{is_unsigned, is_one_of, value_at, value_under, other_than}
use Rattle.cbor_det.specs.Places.{IsUnder}
use Rattle.cbor_det.specs.Term.{Term, Pairs, integer, octets, text, array, map, tagged, boolean, no_pairs, pair}
use Rattle.cbor_det.specs.View.{view, listed, pair_view, pairs_view}
use Rattle.cbor_det.proofs.Adds.{key_of, listed_cons}
use Rattle.cbor_det.proofs.Entries.{made_pairs}
use Rattle.cbor_det.proofs.Others.{is_other, others}
use Rattle.cbor_det.proofs.Under.{under_here, under_none}
use Rattle.cbor_det.proofs.Views.{view_pair, view_pairs}

-- The pair at the place.

pub value_there : (xs : List Pair) (i : ℕ) (x : Pair) → i < length xs → x ≡ get_or xs i x → value_at (listed xs) i ≡ Some (view (out-Pair x).value)
value_there [] i x lt at = absurd (omega (arith, lt))
value_there (y ∷ ys) zero x lt at = ap (λ (p : Term × Term). Some p.1) (view_pair y) ∙ ap (λ (z : Pair). Some (view (out-Pair z).value)) (sym at)
value_there (y ∷ ys) (suc i) x lt at = value_there ys i x (omega (arith, lt)) at

removed : (n : ℕ) (xs : List Pair) (i : ℕ) (x : Pair) → i < length xs → x ≡ get_or xs i x → is_unsigned n (key_of x) ≡ true
    → other_than (n ∷ []) (listed (remove xs i)) ≡ other_than (n ∷ []) (listed xs)
removed n [] i x lt at is = absurd (omega (arith, lt))
removed n (y ∷ ys) zero x lt at is =
    let here : is_one_of (n ∷ []) (key_of y) ≡ true = or_left _ _ (ap (λ (z : Pair). is_unsigned n (key_of z)) (sym at) ∙ is) in
    sym (ap (λ (ps : Pairs). other_than (n ∷ []) ps) (listed_cons y ys) ∙ cond-true _ _ _ here)
removed n (y ∷ ys) (suc i) x lt at is =
    ap (λ (ps : Pairs). if is_one_of (n ∷ []) (pair_view y).0 then ps else pair (pair_view y).0 (pair_view y).1 ps) (removed n ys i x (omega (arith, lt)) at is)

pub place_there : (n : ℕ) (xs : List Pair) (i : ℕ) (x : Pair) → i < length xs → x ≡ get_or xs i x → is_unsigned n (key_of x) ≡ true
    → value_under n (listed xs) ≡ value_under n (listed (drop i xs)) → IsUnder n xs (Some i)
place_there n xs i x lt at is first = (lt, first ∙ under_here n xs i x lt at is ∙ sym (value_there xs i x lt at), removed n xs i x lt at is)

-- What `take` gives and leaves.
module _ (p : code.Pairs) (n : ℕ) (xs ys : List Pair) (i : ℕ) (are : xs ≡ (out-Pairs p).pairs) (held : ys ≡ (out-Pairs p).pairs) (found : IsUnder n xs (Some i)) where
  pub taken_value : (x : Pair) → x ≡ get_or ys i x → Some (view (out-Pair x).value) ≡ value_under n (pairs_view p)
  taken_value x at =
      let lt : i < length (out-Pairs p).pairs = subst (λ (zs : List Pair). i < length zs) are found.0 in
      sym (value_there (out-Pairs p).pairs i x lt (at ∙ ap (λ (zs : List Pair). get_or zs i x) held))
      ∙ ap (λ (zs : List Pair). value_at (listed zs) i) (sym are) ∙ sym found.1
      ∙ ap (λ (zs : List Pair). value_under n (listed zs)) are ∙ ap (λ (qs : Pairs). value_under n qs) (sym (view_pairs p))

  pub taken_left : (zs ws : List Pair) → zs ≡ remove ys i → ws ≡ filter (is_other (n ∷ [])) zs
      → pairs_view (roll-Pairs (record { pairs = ws })) ≡ other_than (n ∷ []) (pairs_view p)
  taken_left zs ws less kept =
      made_pairs ws
      ∙ ap (λ (vs : List Pair). listed vs) (kept ∙ ap (λ (vs : List Pair). filter (is_other (n ∷ [])) vs) (less ∙ ap (λ (vs : List Pair). remove vs i) (held ∙ sym are)))
      ∙ others (n ∷ []) (remove xs i) ∙ found.2 ∙ ap (λ (vs : List Pair). other_than (n ∷ []) (listed vs)) are ∙ ap (λ (qs : Pairs). other_than (n ∷ []) qs) (sym (view_pairs p))

-- Nothing under the key.

none_by : (b : Bool) (n : ℕ) (k v : Term) (ps : Pairs) → (if b then Some v else value_under n ps) ≡ None → (value_under n ps ≡ None → other_than (n ∷ []) ps ≡ ps)
    → (if b || false then other_than (n ∷ []) ps else pair k v (other_than (n ∷ []) ps)) ≡ pair k v ps
none_by true n k v ps none rest = absurd (none-some v (sym none))
none_by false n k v ps none rest = ap (λ (qs : Pairs). pair k v qs) (rest none)

others_none : (n : ℕ) (ps : Pairs) → value_under n ps ≡ None → other_than (n ∷ []) ps ≡ ps
others_none n no_pairs none = refl
others_none n (pair k v ps) none = none_by (is_unsigned n k) n k v ps none (others_none n ps)

pub place_nowhere : (n : ℕ) (xs : List Pair) (i : ℕ) → length xs ≤ i → value_under n (listed xs) ≡ value_under n (listed (drop i xs)) → IsUnder n xs None
place_nowhere n xs i ends first =
    let none = first ∙ under_none n xs i ends in
    (none, others_none n (listed xs) none)

-- What is left.

one_key : (n m : ℕ) (k : Term) → is_unsigned n k ≡ true → (n == m) ≡ false → is_unsigned m k ≡ false
one_key n m (integer (pos j)) is not = ap (λ (i : ℕ). i == m) (eqb-true j n is) ∙ not
one_key n m (integer (negsuc j)) is not = refl
one_key n m (octets s) is not = refl
one_key n m (text s) is not = refl
one_key n m (array ts) is not = refl
one_key n m (map ps) is not = refl
one_key n m (tagged j t) is not = refl
one_key n m (boolean b) is not = refl

still_by : (b : Bool) (n m : ℕ) (k v : Term) (ps : Pairs) → is_unsigned n k ≡ b → (n == m) ≡ false → value_under m (other_than (n ∷ []) ps) ≡ value_under m ps
    → value_under m (if b || false then other_than (n ∷ []) ps else pair k v (other_than (n ∷ []) ps)) ≡ (if is_unsigned m k then Some v else value_under m ps)
still_by true n m k v ps is not rest = rest ∙ ap (λ (c : Bool). if c then Some v else value_under m ps) (sym (one_key n m k is not))
still_by false n m k v ps is not rest = ap (λ (o : Option Term). if is_unsigned m k then Some v else o) rest

-- What stands under another key stands there still.
pub still : (n m : ℕ) (ps : Pairs) → (n == m) ≡ false → value_under m (other_than (n ∷ []) ps) ≡ value_under m ps
still n m no_pairs not = refl
still n m (pair k v ps) not = still_by (is_unsigned n k) n m k v ps refl not (still n m ps not)

others_by : (b : Bool) (n : ℕ) (ns : List ℕ) (k v : Term) (ps : Pairs) → other_than ns (other_than (n ∷ []) ps) ≡ other_than (n ∷ ns) ps
    → other_than ns (if b || false then other_than (n ∷ []) ps else pair k v (other_than (n ∷ []) ps))
    ≡ (if b || is_one_of ns k then other_than (n ∷ ns) ps else pair k v (other_than (n ∷ ns) ps))
others_by true n ns k v ps rest = rest
others_by false n ns k v ps rest = ap (λ (qs : Pairs). if is_one_of ns k then qs else pair k v qs) rest

-- The others of the others are the others of all.
pub others_of : (n : ℕ) (ns : List ℕ) (ps : Pairs) → other_than ns (other_than (n ∷ []) ps) ≡ other_than (n ∷ ns) ps
others_of n ns no_pairs = refl
others_of n ns (pair k v ps) = others_by (is_unsigned n k) n ns k v ps (others_of n ns ps)
