-- A pair put before the first whose key is not below its own.
use Rattle.std.proofs.Common.{◌≡◌, ℕ, suc, List, [], ◌∷◌, Bool, true, false, refl, ap, ◌∙◌, sym, if◌then◌else◌, OnErr, OnOk, Result, Ok, Err}
use Rattle.std.specs.List.{insert}
use Rattle.cbor_det.specs.declared.item.Item.{Item}
use Rattle.cbor_det.specs.declared.item.Item.TheViews.{roll-Pairs, roll-Pair}
use Rattle.cbor_det.specs.declared.item.Pair.{Pair}
use Rattle.cbor_det.specs.declared.item.Pairs as code
use Rattle.cbor_det.specs.declared.item.Pairs.{out-Pairs}
use Rattle.cbor_det.specs.Adding.{is_above, put}
use Rattle.cbor_det.specs.Places.{front_length}
use Rattle.cbor_det.specs.Term.{Term, Pairs, pair}
use Rattle.cbor_det.specs.View.{view, listed, pair_view, pairs_view}
use Rattle.cbor_det.proofs.Adds.{made_pair}
use Rattle.cbor_det.proofs.Entries.{made_pairs}
use Rattle.cbor_det.proofs.Views.{view_pairs}

either : (b : Bool) (k v : Term) (x y : Pair) (xs : List Pair) (n : ℕ) → pair k v (listed (y ∷ xs)) ≡ listed (x ∷ y ∷ xs) → listed (insert xs n x) ≡ put k v (listed xs)
    → listed (insert (y ∷ xs) (if b then suc n else 0) x) ≡ (if b then pair (pair_view y).0 (pair_view y).1 (put k v (listed xs)) else pair k v (listed (y ∷ xs)))
either true k v x y xs n here later = ap (λ (ps : Pairs). pair (pair_view y).0 (pair_view y).1 ps) later
either false k v x y xs n here later = sym here

pub put_there : (x : Pair) (xs : List Pair) → listed (insert xs (front_length (pair_view x).0 xs) x) ≡ put (pair_view x).0 (pair_view x).1 (listed xs)
put_there x [] = refl
put_there x (y ∷ xs) =
    either (is_above (pair_view x).0 (pair_view y).0) (pair_view x).0 (pair_view x).1 x y xs (front_length (pair_view x).0 xs) refl (put_there x xs)

module _ (before : code.Pairs) (ys xs : List Pair) (place : ℕ) (key value held item : Item) (is_key : held ≡ key) (is_item : item ≡ held) (are : xs ≡ (out-Pairs before).pairs)
    (found : place ≡ front_length (view held) xs) where
  abbrev made : Pair
  made = roll-Pair (record { key = item; value = value })

  is_made : ◌≡◌ {A = Term × Term} (pair_view made) (view key, view value)
  is_made = made_pair item value ∙ ap (λ (i : Item). (view i, view value)) (is_item ∙ is_key)

  here : place ≡ front_length (pair_view made).0 (out-Pairs before).pairs
  here =
      found ∙ ap (λ (i : Item). front_length (view i) xs) is_key ∙ ap (λ (zs : List Pair). front_length (view key) zs) are
      ∙ ap (λ (q : Term × Term). front_length q.0 (out-Pairs before).pairs) (sym is_made)

  placed : ys ≡ insert (out-Pairs before).pairs place made → pairs_view (roll-Pairs (record { pairs = ys })) ≡ put (view key) (view value) (pairs_view before)
  placed is =
      made_pairs ys ∙ ap (λ (zs : List Pair). listed zs) (is ∙ ap (λ (n : ℕ). insert (out-Pairs before).pairs n made) here) ∙ put_there made (out-Pairs before).pairs
      ∙ ap (λ (q : Term × Term). put q.0 q.1 (listed (out-Pairs before).pairs)) is_made
      ∙ ap (λ (ps : Pairs). put (view key) (view value) ps) (sym (view_pairs before))

  pub pair_put : {T E : Type 0} (r : Result T E) → OnOk r (ys ≡ insert (out-Pairs before).pairs place made)
      → OnOk r (pairs_view (roll-Pairs (record { pairs = ys })) ≡ put (view key) (view value) (pairs_view before))
  pair_put (Ok t) is = placed is
  pair_put (Err e) is = tt

-- Where the pair was not put in, the pairs are as they were.
pub pairs_kept : {T E : Type 0} (before : code.Pairs) (ys : List Pair) (r : Result T E) → OnErr r (ys ≡ (out-Pairs before).pairs)
    → OnErr r (pairs_view (roll-Pairs (record { pairs = ys })) ≡ pairs_view before)
pairs_kept before ys (Ok t) is = tt
pairs_kept before ys (Err e) is = made_pairs ys ∙ ap (λ (zs : List Pair). listed zs) is ∙ sym (view_pairs before)
