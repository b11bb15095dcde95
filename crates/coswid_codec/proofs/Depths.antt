-- How deep the parts before are, and all of them.
use Rattle.std.proofs.Common.{◌≡◌, ◌<◌, ◌≤◌, ◌+◌, ℕ, zero, suc, max, true, false, nat_le, List, [], ◌∷◌, ◌++◌, length, get_or, map, take, sym, ap, ◌∙◌, subst, arith}
use Rattle.std.proofs.lemmas.Bool.{leb-true, leb-false, le-leb, lt-leb}
use Rattle.std.proofs.lemmas.List.{take_more, map-append}
use Rattle.cbor_det.specs.declared.item.Item.{Item}
use Rattle.cbor_det.specs.Lookup.{key_at, value_at}
use Rattle.cbor_det.specs.Term.{Term, Pairs, no_pairs, pair, pair_count, depth, terms_depth, pairs_depth}
use Rattle.cbor_det.specs.View.{view, terms_of}
use Rattle.coswid_codec.specs.Marked.{some_depth}

-- elements

depth_plus : (ts : List Term) (t : Term) → terms_depth (terms_of (ts ++ t ∷ [])) ≤ max (terms_depth (terms_of ts)) (depth t)
depth_plus [] t = omega arith
depth_plus (u ∷ ts) t = let l = depth_plus ts t in omega (arith, l)

pub terms_more : (xs : List Item) (i levels : ℕ) (x : Item) → i < length xs → x ≡ get_or xs i x → terms_depth (terms_of (map view (take i xs))) < levels → nat_le levels (depth (view x)) ≡ false
    → terms_depth (terms_of (map view (take (i + 1) xs))) < levels
terms_more xs i levels x lt at front not =
    let e : map view (take (i + 1) xs) ≡ map view (take i xs) ++ view x ∷ [] =
    ap (λ (ys : List Item). map view ys) (take_more xs i x lt ∙ ap (λ (y : Item). take i xs ++ y ∷ []) (sym at)) ∙ map-append view (take i xs) (x ∷ []) in
    let P : List Term → Type 0 = λ ts. terms_depth (terms_of ts) < levels in
    let l = depth_plus (map view (take i xs)) (view x) in
    let m : depth (view x) < levels = leb-false levels (depth (view x)) not in
    let below : terms_depth (terms_of (map view (take i xs) ++ view x ∷ [])) < levels = omega (arith, l, m, front) in
    subst P (sym e) below

part_below : (xs : List Item) (i : ℕ) (d : Item) → i < length xs → depth (view (get_or xs i d)) ≤ terms_depth (terms_of (map view xs))
part_below [] i d lt = absurd (omega (arith, lt))
part_below (x ∷ xs) zero d lt = omega arith
part_below (x ∷ xs) (suc i) d lt = let l = part_below xs i d (omega (arith, lt)) in omega (arith, l)

pub terms_reach : (xs : List Item) (i levels : ℕ) (x : Item) → i < length xs → x ≡ get_or xs i x → nat_le levels (depth (view x)) ≡ true → true ≡ nat_le levels (terms_depth (terms_of (map view xs)))
terms_reach xs i levels x lt at reached =
    let P : Item → Type 0 = λ y. depth (view y) ≤ terms_depth (terms_of (map view xs)) in
    let l : depth (view x) ≤ terms_depth (terms_of (map view xs)) = subst P (sym at) (part_below xs i x lt) in
    let m : levels ≤ depth (view x) = leb-true levels (depth (view x)) reached in
    sym (le-leb levels (terms_depth (terms_of (map view xs))) (omega (arith, l, m)))

-- pairs

abbrev pub front_depth : ℕ → Pairs → ℕ
front_depth zero ps = 0
front_depth (suc n) no_pairs = 0
front_depth (suc n) (pair k v ps) = max (depth k) (max (depth v) (front_depth n ps))

front_next : (n : ℕ) (ps : Pairs) → front_depth (suc n) ps ≤ max (front_depth n ps) (max (some_depth (key_at ps n)) (some_depth (value_at ps n)))
front_next zero no_pairs = omega arith
front_next zero (pair k v ps) = omega arith
front_next (suc n) no_pairs = omega arith
front_next (suc n) (pair k v ps) = let l = front_next n ps in omega (arith, l)

pub pairs_more : (n levels : ℕ) (ps : Pairs) → front_depth n ps < levels → some_depth (key_at ps n) < levels → some_depth (value_at ps n) < levels → front_depth (suc n) ps < levels
pairs_more n levels ps front key value = let l = front_next n ps in omega (arith, l, front, key, value)

front_all : (n : ℕ) (ps : Pairs) → pair_count ps ≤ n → pairs_depth ps ≤ front_depth n ps
front_all n no_pairs all = omega arith
front_all zero (pair k v ps) all = absurd (omega (arith, all))
front_all (suc n) (pair k v ps) all = let l = front_all n ps (omega (arith, all)) in omega (arith, l)

pub pairs_end : (n levels : ℕ) (ps : Pairs) → pair_count ps ≤ n → front_depth n ps < levels → false ≡ nat_le levels (pairs_depth ps)
pairs_end n levels ps all front = let l = front_all n ps all in sym (lt-leb levels (pairs_depth ps) (omega (arith, l, front)))

key_below : (n : ℕ) (ps : Pairs) → some_depth (key_at ps n) ≤ pairs_depth ps
key_below n no_pairs = omega arith
key_below zero (pair k v ps) = omega arith
key_below (suc n) (pair k v ps) = let l = key_below n ps in omega (arith, l)

value_below : (n : ℕ) (ps : Pairs) → some_depth (value_at ps n) ≤ pairs_depth ps
value_below n no_pairs = omega arith
value_below zero (pair k v ps) = omega arith
value_below (suc n) (pair k v ps) = let l = value_below n ps in omega (arith, l)

pub key_reaches : (n levels : ℕ) (ps : Pairs) → nat_le levels (some_depth (key_at ps n)) ≡ true → true ≡ nat_le levels (pairs_depth ps)
key_reaches n levels ps reached =
    let l = key_below n ps in
    let m : levels ≤ some_depth (key_at ps n) = leb-true levels (some_depth (key_at ps n)) reached in
    sym (le-leb levels (pairs_depth ps) (omega (arith, l, m)))

pub value_reaches : (n levels : ℕ) (ps : Pairs) → nat_le levels (some_depth (value_at ps n)) ≡ true → true ≡ nat_le levels (pairs_depth ps)
value_reaches n levels ps reached =
    let l = value_below n ps in
    let m : levels ≤ some_depth (value_at ps n) = leb-true levels (some_depth (value_at ps n)) reached in
    sym (le-leb levels (pairs_depth ps) (omega (arith, l, m)))
