-- Items, and what they are without where they lie in memory.
use Rattle.std.proofs.Common.{◌≡◌, ℕ, ◌+◌, List, [], ◌∷◌, length, map, refl, sym, ap, ◌∙◌, add-one, rules}
use Rattle.std.proofs.lemmas.List.{length-map}
use Rattle.std.proofs.Common.{zero, suc, Option, Some}
use Rattle.std.specs.Option.{option_map}
use Rattle.std.specs.Prelude.{slice_get}
use Rattle.cbor_det.specs.Lookup.{key_at, value_at}
use Rattle.cbor_det.specs.declared.item.Item.{Item, the_lemmas}
use Rattle.cbor_det.specs.declared.item.Pair.{Pair, out-Pair}
use Rattle.cbor_det.specs.declared.item.Item.TheVariants as code
use Rattle.cbor_det.specs.declared.item.Pairs as pairs
use Rattle.cbor_det.specs.declared.item.Pairs.{out-Pairs}
use Rattle.cbor_det.specs.Term.{Term, Pairs, array, map as map_term, tagged, count, pair_count}
use Rattle.cbor_det.specs.View.{terms_of, pairs_of, view, pairs_view}
pub use Rattle.cbor_det.specs.View.{pair_view}

pub view_array : (xs : List Item) → view (code.Array xs) ≡ array (terms_of (map view xs))
view_array xs = search (rules, the_lemmas)

pub view_map : (p : pairs.Pairs) → view (code.Map p) ≡ map_term (pairs_view p)
view_map p = search (rules, the_lemmas)

pub view_tag : (n : ℕ) (t : Item) → view (code.Tag n t) ≡ tagged n (view t)
view_tag n t = search (rules, the_lemmas)

pub count_terms : (ts : List Term) → count (terms_of ts) ≡ length ts
count_terms [] = refl
count_terms (t ∷ ts) = ap (λ (n : ℕ). n + 1) (count_terms ts) ∙ add-one (length ts)

pub count_pairs : (ps : List (Term × Term)) → pair_count (pairs_of ps) ≡ length ps
count_pairs [] = refl
count_pairs (p ∷ ps) = ap (λ (n : ℕ). n + 1) (count_pairs ps) ∙ add-one (length ps)

pub view_pairs : (p : pairs.Pairs) → pairs_view p ≡ pairs_of (map pair_view (out-Pairs p).pairs)
view_pairs p = search (rules, the_lemmas)

pub view_pair : (p : Pair) → pair_view p ≡ (view (out-Pair p).key, view (out-Pair p).value)
view_pair p = search (rules, the_lemmas)

pub count_view : (p : pairs.Pairs) → pair_count (pairs_view p) ≡ length (out-Pairs p).pairs
count_view p = ap (λ (ps : Pairs). pair_count ps) (view_pairs p) ∙ count_pairs (map pair_view (out-Pairs p).pairs) ∙ length-map (out-Pairs p).pairs pair_view

pub count_items : (xs : List Item) → count (terms_of (map view xs)) ≡ length xs
count_items xs = count_terms (map view xs) ∙ length-map xs view

pub key_found : (xs : List Pair) (place : ℕ) → option_map (λ (p : Pair). view (out-Pair p).key) (slice_get xs place) ≡ key_at (pairs_of (map pair_view xs)) place
key_found [] place = refl
key_found (x ∷ xs) zero = ap (λ (p : Term × Term). Some p.0) (sym (view_pair x))
key_found (x ∷ xs) (suc place) = key_found xs place

pub value_found : (xs : List Pair) (place : ℕ) → option_map (λ (p : Pair). view (out-Pair p).value) (slice_get xs place) ≡ value_at (pairs_of (map pair_view xs)) place
value_found [] place = refl
value_found (x ∷ xs) zero = ap (λ (p : Term × Term). Some p.1) (sym (view_pair x))
value_found (x ∷ xs) (suc place) = value_found xs place

-- the same of the pair that code found at the place
pub key_there : {o : Option Pair} (p : pairs.Pairs) (place : ℕ) → o ≡ slice_get (out-Pairs p).pairs place → option_map (λ (q : Pair). view (out-Pair q).key) o ≡ key_at (pairs_view p) place
key_there p place e =
    ap (λ (o : Option Pair). option_map (λ (q : Pair). view (out-Pair q).key) o) e ∙ key_found (out-Pairs p).pairs place ∙ ap (λ (ps : Pairs). key_at ps place) (sym (view_pairs p))

pub value_there : {o : Option Pair} (p : pairs.Pairs) (place : ℕ) → o ≡ slice_get (out-Pairs p).pairs place → option_map (λ (q : Pair). view (out-Pair q).value) o ≡ value_at (pairs_view p) place
value_there p place e =
    ap (λ (o : Option Pair). option_map (λ (q : Pair). view (out-Pair q).value) o) e ∙ value_found (out-Pairs p).pairs place ∙ ap (λ (ps : Pairs). value_at ps place) (sym (view_pairs p))
