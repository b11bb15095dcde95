-- What stands under a key of a map, and an element of an array, are less deep.
use Rattle.std.proofs.Common.{◌≡◌, ◌≤◌, ◌<◌, ◌⊎◌, inl, inr, ℕ, ◌+◌, Bool, true, false, List, ◌∷◌, map as map_list, Option, Some, if◌then◌else◌, ap, ◌∙◌, arith}
use Rattle.cbor_det.specs.Lookup.{is_unsigned, is_one_of, value_under, other_than}
use Rattle.cbor_det.specs.Term.{Term, Pairs, no_pairs, pair, depth, terms_depth, pairs_depth}
use Rattle.cbor_det.specs.View.{view, terms_of, pairs_view}
use Rattle.cbor_det.specs.declared.item.Item.{Item}
use Rattle.cbor_det.specs.declared.item.Item.TheVariants as code
use Rattle.cbor_det.specs.declared.item.Pairs as held
use Rattle.cbor_det.proofs.Views.{view_array, view_map}

found_by : (b : Bool) (w t : Term) (o : Option Term) → (if b then Some w else o) ≡ Some t → (w ≡ t) ⊎ (o ≡ Some t)
found_by true w t o e = inl cc
found_by false w t o e = inr e

pub under_within : (k : ℕ) (ps : Pairs) (t : Term) → value_under k ps ≡ Some t → depth t ≤ pairs_depth ps
under_within k no_pairs t e = absurd cc
under_within k (pair l w ps) t e = elim (found_by (is_unsigned k l) w t (value_under k ps) e) [
  | inl is ↦ let d : depth w ≡ depth t = ap (λ (u : Term). depth u) is in omega (arith, d)
  | inr rest ↦ let d : depth t ≤ pairs_depth ps = under_within k ps t rest in omega (arith, d)
]

kept_deep : (b : Bool) (k v : Term) (ps qs : Pairs) → pairs_depth qs ≤ pairs_depth ps → pairs_depth (if b then qs else pair k v qs) ≤ pairs_depth (pair k v ps)
kept_deep true k v ps qs deep = omega (arith, deep)
kept_deep false k v ps qs deep = omega (arith, deep)

others_deep : (ns : List ℕ) (ps : Pairs) → pairs_depth (other_than ns ps) ≤ pairs_depth ps
others_deep ns no_pairs = omega (arith)
others_deep ns (pair k v ps) = kept_deep (is_one_of ns k) k v ps (other_than ns ps) (others_deep ns ps)

-- What is left of pairs is no deeper.
pub left_deep : (ns : List ℕ) (ps qs : Pairs) → qs ≡ other_than ns ps → pairs_depth qs ≤ pairs_depth ps
left_deep ns ps qs left =
    let d : pairs_depth qs ≡ pairs_depth (other_than ns ps) = ap (λ (us : Pairs). pairs_depth us) left in
    let e : pairs_depth (other_than ns ps) ≤ pairs_depth ps = others_deep ns ps in
    omega (arith, d, e)

-- the first of the elements that are left, and those after it
pub first_within : (n : ℕ) (xs : List Item) (x : Item) (rest : List Item) → xs ≡ x ∷ rest → terms_depth (terms_of (map_list view xs)) ≤ n → depth (view x) ≤ n
first_within n xs x rest is deep =
    let d : terms_depth (terms_of (map_list view xs)) ≡ terms_depth (terms_of (map_list view (x ∷ rest))) = ap (λ (ys : List Item). terms_depth (terms_of (map_list view ys))) is in
    omega (arith, d, deep)

pub rest_within : (n : ℕ) (xs : List Item) (x : Item) (rest : List Item) → xs ≡ x ∷ rest → terms_depth (terms_of (map_list view xs)) ≤ n → terms_depth (terms_of (map_list view rest)) ≤ n
rest_within n xs x rest is deep =
    let d : terms_depth (terms_of (map_list view xs)) ≡ terms_depth (terms_of (map_list view (x ∷ rest))) = ap (λ (ys : List Item). terms_depth (terms_of (map_list view ys))) is in
    omega (arith, d, deep)

pub map_deeper : (item : Item) (p : held.Pairs) → item ≡ code.Map p → pairs_depth (pairs_view p) < depth (view item)
map_deeper item p is =
    let d : depth (view item) ≡ pairs_depth (pairs_view p) + 1 = ap (λ (t : Term). depth t) (ap view is ∙ view_map p) in
    omega (arith, d)

pub array_deeper : (item : Item) (xs : List Item) → item ≡ code.Array xs → terms_depth (terms_of (map_list view xs)) < depth (view item)
array_deeper item xs is =
    let d : depth (view item) ≡ terms_depth (terms_of (map_list view xs)) + 1 = ap (λ (t : Term). depth t) (ap view is ∙ view_array xs) in
    omega (arith, d)
