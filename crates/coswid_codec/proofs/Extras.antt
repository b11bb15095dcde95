-- Pairs of the code for any pairs, and one for each: what stands under other keys can be held, and
-- is reported by what it is seen as.
use Rattle.std.proofs.Common.{◌≡◌, List, [], ◌∷◌, map as map_list, refl, sym, ap, subst, ◌∙◌, rules}
use Rattle.cbor_det.specs.declared.item.Item.{Item, the_lemmas}
use Rattle.cbor_det.specs.declared.item.Item.TheVariants as code
use Rattle.cbor_det.specs.declared.item.Item.TheViews.{roll-Item, roll-Pairs, roll-Pair}
use Rattle.cbor_det.specs.declared.item.Item.TheFolds.{ind-Pairs, map-Item, map-Pair, map-Pairs}
use Rattle.cbor_det.specs.declared.item.Item.TheOpen as layer
use Rattle.cbor_det.specs.declared.item.Pair.{Pair}
use Rattle.cbor_det.specs.declared.item.Pairs as held
use Rattle.cbor_det.specs.Term.{Term, Terms, Pairs, integer, octets, text, array, map, tagged, boolean, no_terms, term, no_pairs, pair}
use Rattle.cbor_det.specs.View.{view, pair_view, pairs_view, terms_of, pairs_of, listed}
use Rattle.cbor_det.proofs.Adds.{made_pair}
use Rattle.cbor_det.proofs.Entries.{made_pairs}
use Rattle.cbor_det.proofs.Views.{view_array, view_map, view_tag}

abbrev mutual
  item_of : Term → Item
  item_of (integer z) = code.Int z
  item_of (octets s) = code.Bytes s
  item_of (text s) = code.Text s
  item_of (array ts) = code.Array (items_of ts)
  item_of (map ps) = code.Map (roll-Pairs (record { pairs = members_of ps }))
  item_of (tagged n t) = code.Tag n (item_of t)
  item_of (boolean b) = code.Bool b

  items_of : Terms → List Item
  items_of no_terms = []
  items_of (term t ts) = item_of t ∷ items_of ts

  members_of : Pairs → List Pair
  members_of no_pairs = []
  members_of (pair k v ps) = roll-Pair (record { key = item_of k; value = item_of v }) ∷ members_of ps

int_view : (z : _) → view (code.Int z) ≡ integer z
int_view z = search (rules, the_lemmas)

bytes_view : (s : _) → view (code.Bytes s) ≡ octets s
bytes_view s = search (rules, the_lemmas)

text_view : (s : _) → view (code.Text s) ≡ text s
text_view s = search (rules, the_lemmas)

bool_view : (b : _) → view (code.Bool b) ≡ boolean b
bool_view b = search (rules, the_lemmas)

mutual
  view_is : (t : Term) → view (item_of t) ≡ t
  view_is (integer z) = int_view z
  view_is (octets s) = bytes_view s
  view_is (text s) = text_view s
  view_is (array ts) = view_array (items_of ts) ∙ ap (λ (us : Terms). array us) (terms_are ts)
  view_is (map ps) = view_map (roll-Pairs (record { pairs = members_of ps })) ∙ ap (λ (qs : Pairs). map qs) (made_pairs (members_of ps) ∙ members_are ps)
  view_is (tagged n t) = view_tag n (item_of t) ∙ ap (λ (u : Term). tagged n u) (view_is t)
  view_is (boolean b) = bool_view b

  terms_are : (ts : Terms) → terms_of (map_list view (items_of ts)) ≡ ts
  terms_are no_terms = refl
  terms_are (term t ts) =
      ap (λ (u : Term). term u (terms_of (map_list view (items_of ts)))) (view_is t) ∙ ap (λ (us : Terms). term t us) (terms_are ts)

  members_are : (ps : Pairs) → listed (members_of ps) ≡ ps
  members_are no_pairs = refl
  members_are (pair k v ps) =
      ap (λ (q : Term × Term). pair q.0 q.1 (listed (members_of ps))) (made_pair (item_of k) (item_of v))
      ∙ ap (λ (l : Term). pair l (view (item_of v)) (listed (members_of ps))) (view_is k)
      ∙ ap (λ (w : Term). pair k w (listed (members_of ps))) (view_is v)
      ∙ ap (λ (qs : Pairs). pair k v qs) (members_are ps)

pub extras_some : (ps : Pairs) → (p : held.Pairs) × (pairs_view p ≡ ps)
extras_some ps = (roll-Pairs (record { pairs = members_of ps }), made_pairs (members_of ps) ∙ members_are ps)

-- What is seen as one is one: an item, a pair and pairs are made again from what they are seen as.

abbrev pair_again : Term × Term → Pair
pair_again q = roll-Pair (record { key = item_of q.0; value = item_of q.1 })

abbrev pairs_again : Pairs → held.Pairs
pairs_again ps = roll-Pairs (record { pairs = members_of ps })

abbrev Again : Item → Type 0
Again x = item_of (view x) ≡ x

abbrev PairAgain : Pair → Type 0
PairAgain p = pair_again (pair_view p) ≡ p

abbrev PairsAgain : held.Pairs → Type 0
PairsAgain p = pairs_again (pairs_view p) ≡ p

-- each with that fact

abbrev TheItem : Type 0
TheItem = (x : Item) × Again x

abbrev ThePair : Type 0
ThePair = (p : Pair) × PairAgain p

abbrev ThePairs : Type 0
ThePairs = (p : held.Pairs) × PairsAgain p

items_again : (xs : List TheItem) → items_of (terms_of (map_list view (map_list (λ e. e.0) xs))) ≡ map_list (λ e. e.0) xs
items_again [] = refl
items_again (x ∷ xs) =
    ap (λ (y : Item). y ∷ items_of (terms_of (map_list view (map_list (λ e. e.0) xs)))) x.1 ∙ ap (λ (ys : List Item). x.0 ∷ ys) (items_again xs)

members_again : (ps : List ThePair) → members_of (pairs_of (map_list pair_view (map_list (λ e. e.0) ps))) ≡ map_list (λ e. e.0) ps
members_again [] = refl
members_again (p ∷ ps) =
    ap (λ (q : Pair). q ∷ members_of (pairs_of (map_list pair_view (map_list (λ e. e.0) ps)))) p.1 ∙ ap (λ (qs : List Pair). p.0 ∷ qs) (members_again ps)

over : {x y : Item} → x ≡ y → Again x → Again y
over e again = subst Again e again

by_layer : (x y : layer.Item-F Item Pair held.Pairs) → x ≡ y → Again (roll-Item x) → Again (roll-Item y)
by_layer x y e again =
    let P : layer.Item-F Item Pair held.Pairs → Type 0 = λ l. Again (roll-Item l) in
    subst P e again

item_step : (x : layer.Item-F Item Pair held.Pairs) (y : layer.Item-F TheItem ThePair ThePairs) → map-Item TheItem ThePair ThePairs Item Pair held.Pairs (λ e. e.0) (λ e. e.0) (λ e. e.0) y ≡ x → Again (roll-Item x)
item_step x (layer.Int z) is = by_layer (layer.Int z) x is (over (sym (code.rolls-Int z)) (ap item_of (int_view z)))
item_step x (layer.Bytes s) is = by_layer (layer.Bytes s) x is (over (sym (code.rolls-Bytes s)) (ap item_of (bytes_view s)))
item_step x (layer.Text s) is = by_layer (layer.Text s) x is (over (sym (code.rolls-Text s)) (ap item_of (text_view s)))
item_step x (layer.Array ys) is =
    by_layer (layer.Array (map_list (λ e. e.0) ys)) x is (over (sym (code.rolls-Array _)) (ap item_of (view_array (map_list (λ e. e.0) ys)) ∙ ap (λ (xs : List Item). code.Array xs) (items_again ys)))
item_step x (layer.Map p) is = by_layer (layer.Map p.0) x is (over (sym (code.rolls-Map p.0)) (ap item_of (view_map p.0) ∙ ap (λ (q : held.Pairs). code.Map q) p.1))
item_step x (layer.Tag n t) is = by_layer (layer.Tag n t.0) x is (over (sym (code.rolls-Tag n t.0)) (ap item_of (view_tag n t.0) ∙ ap (λ (u : Item). code.Tag n u) t.1))
item_step x (layer.Bool b) is = by_layer (layer.Bool b) x is (over (sym (code.rolls-Bool b)) (ap item_of (bool_view b)))

pair_step : (x : layer.Pair-F Item Pair held.Pairs) (y : layer.Pair-F TheItem ThePair ThePairs) → map-Pair TheItem ThePair ThePairs Item Pair held.Pairs (λ e. e.0) (λ e. e.0) (λ e. e.0) y ≡ x → PairAgain (roll-Pair x)
pair_step x y is =
    let P : layer.Pair-F Item Pair held.Pairs → Type 0 = λ l. PairAgain (roll-Pair l) in
    subst P is (
    ap (λ (q : Term × Term). pair_again q) (made_pair y.key.0 y.value.0)
    ∙ ap (λ (k : Item). roll-Pair (record { key = k; value = item_of (view y.value.0) })) y.key.1
    ∙ ap (λ (v : Item). roll-Pair (record { key = y.key.0; value = v })) y.value.1
    )

pairs_step : (x : layer.Pairs-F Item Pair held.Pairs) (y : layer.Pairs-F TheItem ThePair ThePairs) → map-Pairs TheItem ThePair ThePairs Item Pair held.Pairs (λ e. e.0) (λ e. e.0) (λ e. e.0) y ≡ x → PairsAgain (roll-Pairs x)
pairs_step x y is =
    let P : layer.Pairs-F Item Pair held.Pairs → Type 0 = λ l. PairsAgain (roll-Pairs l) in
    subst P is (
    ap (λ (ps : Pairs). pairs_again ps) (made_pairs (map_list (λ e. e.0) y.pairs))
    ∙ ap (λ (ps : List Pair). roll-Pairs (record { pairs = ps })) (members_again y.pairs)
    )

pairs_are : (p : held.Pairs) → PairsAgain p
pairs_are = ind-Pairs Again PairAgain PairsAgain item_step pair_step pairs_step

pub extras_same : (p q : held.Pairs) → pairs_view p ≡ pairs_view q → p ≡ q
extras_same p q e = sym (pairs_are p) ∙ ap (λ (ps : Pairs). pairs_again ps) e ∙ pairs_are q
