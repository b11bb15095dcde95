-- The pairs whose keys are none of some numbers, in a list and in a map.
use Rattle.std.proofs.Common.{◌≡◌, ℕ, List, [], ◌∷◌, ◌≤◌, length, take, Bool, true, false, not, refl, ap, ◌∙◌, sym, if◌then◌else◌}
use Rattle.std.proofs.lemmas.List.{take_all}
use Rattle.std.specs.List.{filter}
use Rattle.cbor_det.specs.declared.item.Pair.{Pair, out-Pair}
use Rattle.cbor_det.specs.declared.item.Item.TheViews.{roll-Pairs}
use Rattle.cbor_det.specs.declared.item.Pairs as code
use Rattle.cbor_det.specs.declared.item.Pairs.{out-Pairs}
use Rattle.cbor_det.specs.Lookup.{is_one_of, other_than}
use Rattle.cbor_det.specs.Term.{Pairs, pair}
use Rattle.cbor_det.specs.View.{view, pairs_view, listed}
use Rattle.cbor_det.proofs.Adds.{key_of, listed_cons}
use Rattle.cbor_det.proofs.Entries.{made_pairs}
use Rattle.cbor_det.proofs.Views.{view_pairs}

abbrev pub is_other : List ℕ → Pair → Bool
is_other ns x = not (is_one_of ns (key_of x))

either : (b : Bool) (x : Pair) (xs : List Pair) (ps : Pairs) → listed xs ≡ ps
    → listed (if not b then x ∷ xs else xs) ≡ (if b then ps else pair (key_of x) (view (out-Pair x).value) ps)
either true x xs ps e = e
either false x xs ps e = listed_cons x xs ∙ ap (λ (qs : Pairs). pair (key_of x) (view (out-Pair x).value) qs) e

pub others : (ns : List ℕ) (xs : List Pair) → listed (filter (is_other ns) xs) ≡ other_than ns (listed xs)
others ns [] = refl
others ns (x ∷ xs) = either (is_one_of ns (key_of x)) x (filter (is_other ns) xs) (other_than ns (listed xs)) (others ns xs)
    ∙ ap (λ (ps : Pairs). other_than ns ps) (sym (listed_cons x xs))

pub others_copied : (p : code.Pairs) (ns : List ℕ) (held made : List Pair) (i : ℕ) → held ≡ (out-Pairs p).pairs → length held ≤ i → made ≡ filter (is_other ns) (take i held)
    → pairs_view (roll-Pairs (record { pairs = made })) ≡ other_than ns (pairs_view p)
others_copied p ns held made i is all copied =
    made_pairs made ∙ ap (λ (xs : List Pair). listed xs) (copied ∙ ap (λ (xs : List Pair). filter (is_other ns) xs) (take_all i held all ∙ is)) ∙ others ns (out-Pairs p).pairs
    ∙ ap (λ (ps : Pairs). other_than ns ps) (sym (view_pairs p))
