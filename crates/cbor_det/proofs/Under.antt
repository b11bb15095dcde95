-- The value under a key, looked for from the start.
use Rattle.std.proofs.Common.{◌≡◌, ℕ, ◌+◌, ◌<◌, ◌≤◌, List, ◌∷◌, length, get_or, drop, sym, ap, ◌∙◌, true, Some, None}
use Rattle.std.proofs.lemmas.Bool.{cond-true}
use Rattle.std.proofs.lemmas.List.{drop_more, drop_all}
use Rattle.cbor_det.specs.declared.item.Pair.{Pair, out-Pair}
use Rattle.cbor_det.specs.Lookup.{is_unsigned, value_under}
use Rattle.cbor_det.specs.Term.{Pairs, pair}
use Rattle.cbor_det.specs.View.{view, listed}
use Rattle.cbor_det.proofs.Adds.{key_of, listed_cons}

pub first : (xs : List Pair) (i : ℕ) (x : Pair) → i < length xs → x ≡ get_or xs i x → listed (drop i xs) ≡ pair (key_of x) (view (out-Pair x).value) (listed (drop (i + 1) xs))
first xs i x lt at =
    ap (λ (ys : List Pair). listed ys) (drop_more xs i x lt ∙ ap (λ (y : Pair). y ∷ drop (i + 1) xs) (sym at)) ∙ listed_cons x (drop (i + 1) xs)

pub under_here : (n : ℕ) (xs : List Pair) (i : ℕ) (x : Pair) → i < length xs → x ≡ get_or xs i x → is_unsigned n (key_of x) ≡ true → value_under n (listed (drop i xs)) ≡ Some (view (out-Pair x).value)
under_here n xs i x lt at is = ap (λ (ps : Pairs). value_under n ps) (first xs i x lt at) ∙ cond-true _ _ _ is

pub under_none : (n : ℕ) (xs : List Pair) (i : ℕ) → length xs ≤ i → value_under n (listed (drop i xs)) ≡ None
under_none n xs i le = ap (λ (ys : List Pair). value_under n (listed ys)) (drop_all i xs le)
