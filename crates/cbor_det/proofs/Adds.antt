-- A pair at its place among rising pairs.
use Rattle.std.proofs.Common.{◌≡◌, ℕ, ◌+◌, ◌<◌, ◌≤◌, List, [], ◌∷◌, ◌++◌, length, get_or, map, take, drop, refl, sym, ap, ◌∙◌, subst, true, false, Some, rules}
use Rattle.std.specs.Ordering.{match_ordering}
use Rattle.std.specs.declared.cmp.Ordering.{Ordering}
use Rattle.std.specs.declared.cmp.Ordering.TheVariants.{Less, Equal, Greater}
use Rattle.std.specs.List.{Contains, insert as insert_at}
use Rattle.std.proofs.lemmas.Bool.{or_from, or_left, or_right}
use Rattle.std.proofs.lemmas.List.{take-append-drop, map-append, drop_more, take_more}
use Rattle.cbor_det.specs.declared.item.Item.{Item, the_lemmas}
use Rattle.cbor_det.specs.declared.item.Item.TheViews.{roll-Pairs, roll-Pair}
use Rattle.cbor_det.specs.declared.item.Pair.{Pair, out-Pair}
use Rattle.cbor_det.specs.declared.item.Pairs as code
use Rattle.cbor_det.specs.declared.item.Pairs.{out-Pairs}
use Rattle.cbor_det.specs.Term.{Term, Pairs, no_pairs, pair}
use Rattle.cbor_det.specs.Canonical.{canon}
use Rattle.cbor_det.specs.Spelling.{IsBelow, Rises, PutsIn}
use Rattle.cbor_det.specs.Proper.{IsProper, IsProperMap}
use Rattle.cbor_det.specs.Faults.{keys}
use Rattle.cbor_det.specs.View.{view, pairs_of, pairs_view, listed}
use Rattle.cbor_det.specs.Places.{AreBelow, IsPlace, IsFound}
use Rattle.cbor_det.specs.Machine.{is_held, insert}
use Rattle.cbor_det.proofs.Views.{pair_view, view_pair, view_pairs}
use Rattle.cbor_det.proofs.Entries.{made_pairs}
use Rattle.cbor_det.proofs.Written.{proper_puts}
use Rattle.cbor_det.proofs.Order.{key_cmp, below_trans, above, below, not_eq, insert_first, insert_puts, rises_insert, held_below, held_is, held_not, free_of, equal_keys}

abbrev pub join : Pairs → Pairs → Pairs
join no_pairs qs = qs
join (pair k v ps) qs = pair k v (join ps qs)

pub passes : (k v : Term) (xs ys : Pairs) → AreBelow xs k → insert k v (join xs ys) ≡ join xs (insert k v ys)
passes k v no_pairs ys all = refl
passes k v (pair l w xs) ys all =
    ap (λ (o : Ordering). match_ordering o (pair k v (pair l w (join xs ys))) (pair k v (join xs ys)) (pair l w (insert k v (join xs ys)))) (above k l all.0)
    ∙ ap (λ (ps : Pairs). pair l w ps) (passes k v xs ys all.1)

first_below : (l w : Term) (m : Term) (xs ys : Pairs) → IsBelow m (join xs (pair l w ys)) → Rises (join xs (pair l w ys)) → key_cmp m l ≡ Less
first_below l w m no_pairs ys is rises = is
first_below l w m (pair n x xs) ys is rises = below_trans m n l is (first_below l w n xs ys rises.0 rises.1)

all_below : (k l w : Term) (xs ys : Pairs) → Rises (join xs (pair l w ys)) → key_cmp l k ≡ Less → AreBelow xs k
all_below k l w no_pairs ys rises lt = tt
all_below k l w (pair m x xs) ys rises lt = (below_trans m l k (first_below l w m xs ys rises.0 rises.1) lt, all_below k l w xs ys rises.1 lt)

pub rises_behind : (xs ys : Pairs) → Rises (join xs ys) → Rises ys
rises_behind no_pairs ys rises = rises
rises_behind (pair k v xs) ys rises = rises_behind xs ys rises.1

pub free_below : (k : Term) (xs ys : Pairs) → AreBelow xs k → is_held ys (canon k) ≡ false → is_held (join xs ys) (canon k) ≡ false
free_below k no_pairs ys all free = free
free_below k (pair l w xs) ys all free = or_from _ _ (not_eq k l Greater (above k l all.0) refl) (free_below k xs ys all.1 free)

held_behind : (s : List ℕ) (xs ys : Pairs) → is_held ys s ≡ true → is_held (join xs ys) s ≡ true
held_behind s no_pairs ys held = held
held_behind s (pair l w xs) ys held = or_right _ _ (held_behind s xs ys held)

join_of : (ps qs : List (Term × Term)) → pairs_of (ps ++ qs) ≡ join (pairs_of ps) (pairs_of qs)
join_of [] qs = refl
join_of (p ∷ ps) qs = ap (λ (r : Pairs). pair p.0 p.1 r) (join_of ps qs)

pub join_listed : (xs ys : List Pair) → listed (xs ++ ys) ≡ join (listed xs) (listed ys)
join_listed xs ys = ap (λ (ps : List (Term × Term)). pairs_of ps) (map-append pair_view xs ys) ∙ join_of (map pair_view xs) (map pair_view ys)

pub listed_cons : (x : Pair) (xs : List Pair) → listed (x ∷ xs) ≡ pair (view (out-Pair x).key) (view (out-Pair x).value) (listed xs)
listed_cons x xs = ap (λ (p : Term × Term). pair p.0 p.1 (listed xs)) (view_pair x)

abbrev pub key_of : Pair → Term
key_of x = view (out-Pair x).key

-- the pairs, as those before a place, the one at it, and those after
split_at : (xs : List Pair) (i : ℕ) (x : Pair) → i < length xs → x ≡ get_or xs i x → listed xs ≡ join (listed (take i xs)) (pair (key_of x) (view (out-Pair x).value) (listed (drop (i + 1) xs)))
split_at xs i x lt at =
    ap (λ (ys : List Pair). listed ys) (sym (take-append-drop i xs) ∙ ap (λ (ys : List Pair). take i xs ++ ys) (drop_more xs i x lt ∙ ap (λ (y : Pair). y ∷ drop (i + 1) xs) (sym at)))
    ∙ join_listed (take i xs) (x ∷ drop (i + 1) xs) ∙ ap (λ (ps : Pairs). join (listed (take i xs)) ps) (listed_cons x (drop (i + 1) xs))

all_join : (xs ys : Pairs) (k : Term) → AreBelow xs k → AreBelow ys k → AreBelow (join xs ys) k
all_join no_pairs ys k first second = second
all_join (pair l w xs) ys k first second = (first.0, all_join xs ys k first.1 second)

-- It is held there.
pub held_there : (k : Term) (xs : List Pair) (i : ℕ) (x : Pair) → i < length xs → x ≡ get_or xs i x → key_cmp k (key_of x) ≡ Equal → Contains (keys (listed xs)) (canon k)
held_there k xs i x lt at same =
    let v : Term = view (out-Pair x).value in
    let P : Pairs → Type 0 = λ ps. Contains (keys ps) (canon k) in
    subst P (sym (split_at xs i x lt at))
    (held_is (join (listed (take i xs)) (pair (key_of x) v (listed (drop (i + 1) xs)))) (canon k)
    (held_behind (canon k) (listed (take i xs)) (pair (key_of x) v (listed (drop (i + 1) xs))) (or_left _ _ (equal_keys k (key_of x) same))))

-- It is above that of the pair at this place, and so above all before it.
pub above_there : (k : Term) (xs : List Pair) (i : ℕ) (x : Pair) → i < length xs → x ≡ get_or xs i x → key_cmp k (key_of x) ≡ Greater → Rises (listed xs) → AreBelow (listed (take (i + 1) xs)) k
above_there k xs i x lt at greater rises =
    let v : Term = view (out-Pair x).value in
    let less = below k (key_of x) greater in
    let P : Pairs → Type 0 = λ ps. Rises ps in
    let split = subst P (split_at xs i x lt at) rises in
    let front : AreBelow (listed (take i xs)) k = all_below k (key_of x) v (listed (take i xs)) (listed (drop (i + 1) xs)) split less in
    let R : Pairs → Type 0 = λ ps. AreBelow ps k in
    subst R (sym (ap (λ (ys : List Pair). listed ys) (take_more xs i x lt ∙ ap (λ (y : Pair). take i xs ++ y ∷ []) (sym at)) ∙ join_listed (take i xs) (x ∷ [])
    ∙ ap (λ (ps : Pairs). join (listed (take i xs)) ps) (listed_cons x [])))
    (all_join (listed (take i xs)) (pair (key_of x) v no_pairs) k front (less, tt))

-- Between those below it and those above it a key is not held.
pub is_place : (k : Term) (xs : List Pair) (place : ℕ) → place ≤ length xs → Rises (listed xs) → AreBelow (listed (take place xs)) k → IsBelow k (listed (drop place xs)) → IsPlace k xs place
is_place k xs place within rises front back =
    let parts : listed xs ≡ join (listed (take place xs)) (listed (drop place xs)) = ap (λ (ys : List Pair). listed ys) (sym (take-append-drop place xs)) ∙ join_listed (take place xs) (drop place xs) in
    let P : Pairs → Type 0 = λ ps. Rises ps in
    let S : Pairs → Type 0 = λ ps. ¬ Contains (keys ps) (canon k) in
    let behind = rises_behind (listed (take place xs)) (listed (drop place xs)) (subst P parts rises) in
    record {
      within = within;
      free = subst S (sym parts) (held_not (join (listed (take place xs)) (listed (drop place xs))) (canon k)
          (free_below k (listed (take place xs)) (listed (drop place xs)) front (held_below k (listed (drop place xs)) back behind)));
      front = front;
      back = back;
    }

-- The pairs with one more at its place.
pub added : (xs ys : List Pair) (place : ℕ) (p : Pair) → IsPlace (key_of p) xs place → ys ≡ insert_at xs place p → listed ys ≡ insert (key_of p) (view (out-Pair p).value) (listed xs)
added xs ys place p fits is =
    let k : Term = key_of p in
    let v : Term = view (out-Pair p).value in
    let parts : listed xs ≡ join (listed (take place xs)) (listed (drop place xs)) = ap (λ (zs : List Pair). listed zs) (sym (take-append-drop place xs)) ∙ join_listed (take place xs) (drop place xs) in
    ap (λ (zs : List Pair). listed zs) is ∙ join_listed (take place xs) (p ∷ drop place xs) ∙ ap (λ (ps : Pairs). join (listed (take place xs)) ps) (listed_cons p (drop place xs))
    ∙ ap (λ (ps : Pairs). join (listed (take place xs)) ps) (sym (insert_first k v (listed (drop place xs)) fits.back))
    ∙ sym (passes k v (listed (take place xs)) (listed (drop place xs)) fits.front) ∙ ap (λ (ps : Pairs). insert k v ps) (sym parts)

pub made_pair : (key value : Item) → pair_view (roll-Pair (record { key = key; value = value })) ≡ (view key, view value)
made_pair key value = search (rules, the_lemmas)

-- The pairs of the code with one more at its place. `held` is the key while it has its spelling,
-- and `item` the key again.
module _ (before : code.Pairs) (ys xs : List Pair) (place : ℕ) (key value held item : Item) (is_key : held ≡ key) (is_item : item ≡ held) (are : xs ≡ (out-Pairs before).pairs)
    (found : IsFound (view held) xs (Some place)) (put : ys ≡ insert_at (out-Pairs before).pairs place (roll-Pair (record { key = item; value = value }))) where
  abbrev made : Pair
  made = roll-Pair (record { key = item; value = value })

  is_made : ◌≡◌ {A = Term × Term} (key_of made, view (out-Pair made).value) (view key, view value)
  is_made = sym (view_pair made) ∙ made_pair item value ∙ ap (λ (i : Item). (view i, view value)) (is_item ∙ is_key)

  fits : IsPlace (key_of made) (out-Pairs before).pairs place
  fits =
      let P : Item → Type 0 = λ i. IsPlace (view i) xs place in
      let Q : List Pair → Type 0 = λ zs. IsPlace (view key) zs place in
      let R : Term × Term → Type 0 = λ q. IsPlace q.0 (out-Pairs before).pairs place in
      subst R (sym is_made) (subst Q are (subst P is_key found))

  free : ¬ Contains (keys (pairs_view before)) (canon (view key))
  free =
      let P : Pairs → Type 0 = λ ps. ¬ Contains (keys ps) (canon (key_of made)) in
      let Q : Term × Term → Type 0 = λ q. ¬ Contains (keys (pairs_view before)) (canon q.0) in
      subst Q is_made (subst P (sym (view_pairs before)) fits.free)

  inserted : pairs_view (roll-Pairs (record { pairs = ys })) ≡ insert (view key) (view value) (pairs_view before)
  inserted =
      made_pairs ys ∙ added (out-Pairs before).pairs ys place made fits put
      ∙ ap (λ (q : Term × Term). insert q.0 q.1 (listed (out-Pairs before).pairs)) is_made
      ∙ ap (λ (ps : Pairs). insert (view key) (view value) ps) (sym (view_pairs before))

  puts : PutsIn (view key) (view value) (pairs_view before) (insert (view key) (view value) (pairs_view before))
  puts = insert_puts (view key) (view value) (pairs_view before) (free_of (pairs_view before) (canon (view key)) free)

  pub pair_added : (¬ Contains (keys (pairs_view before)) (canon (view key))) × PutsIn (view key) (view value) (pairs_view before) (pairs_view (roll-Pairs (record { pairs = ys })))
  pair_added =
      let P : Pairs → Type 0 = λ ps. PutsIn (view key) (view value) (pairs_view before) ps in
      (free, subst P (sym inserted) puts)

  pub pair_proper : IsProperMap (pairs_view before) → IsProper (view key) → IsProper (view value) → IsProperMap (pairs_view (roll-Pairs (record { pairs = ys })))
  pair_proper proper is_proper value_proper =
      let P : Pairs → Type 0 = λ ps. IsProperMap ps in
      subst P (sym inserted) (
        rises_insert (view key) (view value) (pairs_view before) proper.0 (free_of (pairs_view before) (canon (view key)) free),
        proper_puts (view key) (view value) (pairs_view before) (insert (view key) (view value) (pairs_view before)) puts proper.1 is_proper value_proper,
      )
