-- Pairs that are read in rising order of their keys.
use Rattle.std.proofs.Common.{◌≡◌, ℕ, ◌+◌, ◌<◌, List, [], ◌∷◌, ◌++◌, length, get_or, map, ◌-◌, refl, sym, ap, ◌∙◌, subst, arith, Bool, true, false, not, Option, None, Some}
use Rattle.std.specs.Prelude.{Result, Ok, Err}
use Rattle.std.specs.Result.{OnOk, OnErr}
use Rattle.std.specs.Option.{option_map, is_some}
use Rattle.std.proofs.lemmas.Bool.{both_ways}
use Rattle.std.specs.Bool.{OnTrue}
use Rattle.std.proofs.lemmas.List.{take_all, length-map}
use Rattle.std.specs.Ordering.{match_ordering}
use Rattle.std.specs.declared.cmp.Ordering.{Ordering}
use Rattle.std.specs.declared.cmp.Ordering.TheVariants.{Less, Equal, Greater}
use Rattle.cbor_det.specs.declared.item.Item.{Item}
use Rattle.cbor_det.specs.declared.item.Item.TheViews.{roll-Pair}
use Rattle.cbor_det.specs.declared.item.Pair.{Pair}
use Rattle.cbor_det.specs.Term.{Term, Pairs, no_pairs, pair, pair_count}
use Rattle.cbor_det.specs.Canonical.{canon}
use Rattle.cbor_det.specs.Spelling.{Rises}
use Rattle.cbor_det.specs.View.{view, listed}
use Rattle.cbor_det.specs.Places.{AreBelow}
use Rattle.cbor_det.specs.Adding.{is_above}
use Rattle.cbor_det.specs.Open.{IsTaken, MayCome, RisesTo, is_whole}
use Rattle.cbor_det.specs.Machine.{is_held, is_full, insert}
use Rattle.cbor_det.proofs.Views.{count_pairs, pair_view}
use Rattle.cbor_det.proofs.Order.{key_cmp, rises_insert, insert_first}
use Rattle.cbor_det.proofs.Adds.{join, join_listed, rises_behind, passes, free_below, above_there, key_of, made_pair}

greater_by : (o : Ordering) → match_ordering o false false true ≡ true → o ≡ Greater
greater_by Less e = cc
greater_by Equal e = cc
greater_by Greater e = refl

-- A key above that of the last pair is above all.
pub above_last : (k : Term) (xs : List Pair) (i : ℕ) (x : Pair) → i + 1 ≡ length xs → x ≡ get_or xs i x → is_above k (key_of x) ≡ true → Rises (listed xs) → AreBelow (listed xs) k
above_last k xs i x last at above rises =
    let P : List Pair → Type 0 = λ ys. AreBelow (listed ys) k in
    subst P (take_all (i + 1) xs (omega arith)) (above_there k xs i x (omega arith) at (greater_by (key_cmp k (key_of x)) above) rises)

pub join_nothing : (xs : Pairs) → join xs no_pairs ≡ xs
join_nothing no_pairs = refl
join_nothing (pair k v xs) = ap (λ (ps : Pairs). pair k v ps) (join_nothing xs)

-- A key above all is not held, and its pair goes to the end.
pub free_above : (k : Term) (xs : Pairs) → AreBelow xs k → is_held xs (canon k) ≡ false
free_above k xs all = ap (λ (ps : Pairs). is_held ps (canon k)) (sym (join_nothing xs)) ∙ free_below k xs no_pairs all refl

module _ (xs ys : List Pair) (key value : Item) (all : AreBelow (listed xs) (view key)) (is : ys ≡ xs ++ roll-Pair (record { key = key; value = value }) ∷ []) where
  pub pushed_last : listed ys ≡ insert (view key) (view value) (listed xs)
  pushed_last =
      ap (λ (zs : List Pair). listed zs) is ∙ join_listed xs (roll-Pair (record { key = key; value = value }) ∷ [])
      ∙ ap (λ (q : Term × Term). join (listed xs) (pair q.0 q.1 no_pairs)) (made_pair key value)
      ∙ sym (passes (view key) (view value) (listed xs) no_pairs all) ∙ ap (λ (ps : Pairs). insert (view key) (view value) ps) (join_nothing (listed xs))

  pub rises_last : Rises (listed xs) → Rises (listed ys)
  rises_last rises =
      let P : Pairs → Type 0 = λ ps. Rises ps in
      subst P (sym pushed_last) (rises_insert (view key) (view value) (listed xs) rises (free_above (view key) (listed xs) all))

-- a key that may come, and the value that is due
pub took_key : (ps : Pairs) (key : Option Item) (t : Term) → key ≡ None → MayCome ps (option_map view key) t → IsTaken ps (option_map view key) t true ps (Some t)
took_key ps None t e may = (ap (λ (b : Bool). not b) (sym (free_above t ps may)), λ so. (refl, refl))
took_key ps (Some k) t e may = absurd (cc)

module _ (xs ys : List Pair) (key : Option Item) (k v : Item) (some : key ≡ Some k) (rises : RisesTo (listed xs) (option_map view key)) where
  parts : Rises (listed xs) × AreBelow (listed xs) (view k)
  parts =
      let P : Option Item → Type 0 = λ o. RisesTo (listed xs) (option_map view o) in
      subst P some rises

  pub took_value : {T E : Type 0} (r : Result T E) (next : Option Item) → next ≡ None → OnOk r (ys ≡ xs ++ roll-Pair (record { key = k; value = v }) ∷ [])
      → OnOk r (IsTaken (listed xs) (option_map view key) (view v) true (listed ys) (option_map view next))
  took_value (Ok t) next none is =
      let P : Option Item → Type 0 = λ o. IsTaken (listed xs) (option_map view o) (view v) true (listed ys) (option_map view next) in
      subst P (sym some) (refl, pushed_last xs ys k v parts.1 is, ap (λ (o : Option Item). option_map view o) none)
  took_value (Err e) next none is = tt

  pub rises_after : {T E : Type 0} (r : Result T E) (next : Option Item) → next ≡ None → OnOk r (ys ≡ xs ++ roll-Pair (record { key = k; value = v }) ∷ []) → OnErr r (ys ≡ xs)
      → RisesTo (listed ys) (option_map view next)
  rises_after (Ok t) next none ok err =
      let P : Option Item → Type 0 = λ o. RisesTo (listed ys) (option_map view o) in
      subst P (sym none) (rises_last xs ys k v parts.1 ok parts.0)
  rises_after (Err e) next none ok err =
      let P : Option Item → Type 0 = λ o. RisesTo (listed ys) (option_map view o) in
      let Q : List Pair → Type 0 = λ zs. Rises (listed zs) in
      subst P (sym none) (subst Q (sym err) parts.0)

-- A key is admitted where it is above the last.
pub admitted : (b : Bool) (xs : List Pair) (x : Pair) (key : Option Item) (k : Term) → 0 < length xs → x ≡ get_or xs (length xs - 1) x → RisesTo (listed xs) (option_map view key)
    → is_some key ≡ false → OnTrue b (is_above k (key_of x) ≡ true) → OnTrue b (MayCome (listed xs) (option_map view key) k)
admitted false xs x key k some at rises none test = tt
admitted true xs x None k some at rises none test = above_last k xs (length xs - 1) x (omega arith) at test rises
admitted true xs x (Some i) k some at rises none test = absurd (both_ways true none refl)

-- an ordered map takes a key
module _ {A : Type 0} (f : A → Term) (ps : Pairs) (t : Term) where
  pub refused_key : (key : Option A) (held : Bool) (next : Option Term) → key ≡ None → held ≡ is_held ps (canon t) → held ≡ true → IsTaken ps (option_map f key) t false ps next
  refused_key None held next none test so = (ap (λ (b : Bool). not b) (sym so ∙ test), λ lie. absurd (both_ways false refl lie))
  refused_key (Some k) held next none test so = absurd (cc)

  pub taken_key : (key : Option A) (held : Bool) (u : Term) → key ≡ None → u ≡ t → held ≡ is_held ps (canon t) → held ≡ false → IsTaken ps (option_map f key) t true ps (Some u)
  taken_key None held u none same test lie = (ap (λ (b : Bool). not b) (sym lie ∙ test), λ so. (refl, ap (λ (v : Term). Some v) same))
  taken_key (Some k) held u none same test lie = absurd (cc)

pub whole_of : {A : Type 0} (f : A → Term) (all : Option ℕ) (ps : Pairs) (key : Option A) (n : ℕ) (none : Bool) → is_some key ≡ not none → none ≡ true → n ≡ pair_count ps
    → is_full all n ≡ is_whole all ps (option_map f key)
whole_of f all ps None n none test so is = ap (λ (k : ℕ). is_full all k) is
whole_of f all ps (Some k) n none test so is = absurd (both_ways true (test ∙ ap (λ (b : Bool). not b) so) refl)

pub listed_count : (xs : List Pair) → length xs ≡ pair_count (listed xs)
listed_count xs = sym (count_pairs (map pair_view xs) ∙ length-map xs pair_view)

-- the last of the pairs that are left goes before those that are in
join_more : (xs : Pairs) (k v : Term) (ps : Pairs) → join (join xs (pair k v no_pairs)) ps ≡ join xs (pair k v ps)
join_more no_pairs k v ps = refl
join_more (pair l w xs) k v ps = ap (λ (qs : Pairs). pair l w qs) (join_more xs k v ps)

pub moved : (xs ys : List Pair) (key value : Item) (ps qs all : Pairs) → ys ≡ xs ++ roll-Pair (record { key = key; value = value }) ∷ [] → join (listed ys) ps ≡ all → Rises all
    → qs ≡ insert (view key) (view value) ps → join (listed xs) qs ≡ all
moved xs ys key value ps qs all is same rises put =
    let P : Pairs → Type 0 = λ rs. Rises rs in
    let k : Term = view key in
    let v : Term = view value in
    let parts : join (listed ys) ps ≡ join (listed xs) (pair k v ps) =
    ap (λ (zs : List Pair). join (listed zs) ps) is ∙ ap (λ (rs : Pairs). join rs ps) (join_listed xs (roll-Pair (record { key = key; value = value }) ∷ []))
    ∙ ap (λ (q : Term × Term). join (join (listed xs) (pair q.0 q.1 no_pairs)) ps) (made_pair key value) ∙ join_more (listed xs) k v ps in
    let behind = rises_behind (listed xs) (pair k v ps) (subst P (sym same ∙ parts) rises) in
    ap (λ (rs : Pairs). join (listed xs) rs) (put ∙ insert_first k v ps behind.0) ∙ sym parts ∙ same
