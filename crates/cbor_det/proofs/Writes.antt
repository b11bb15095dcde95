-- What the writer has written, part by part.
use Rattle.std.proofs.Common.{◌≡◌, ℕ, ◌+◌, ◌<◌, ◌≤◌, List, [], ◌∷◌, ◌++◌, length, get_or, map, take, sym, ap, ◌∙◌, append_assoc}
use Rattle.std.proofs.lemmas.List.{append-nil, length-map, take_all, take_more, map_push}
use Rattle.cbor_det.specs.declared.item.Item.{Item}
use Rattle.cbor_det.specs.declared.item.Pair.{Pair, out-Pair}
use Rattle.cbor_det.specs.declared.item.Item.TheVariants as code
use Rattle.cbor_det.specs.declared.item.Pairs as pairs
use Rattle.cbor_det.specs.declared.item.Pairs.{out-Pairs}
use Rattle.cbor_det.specs.Term.{Term, Pairs, array}
use Rattle.cbor_det.specs.Canonical.{short_head, canon, canon_terms, canon_pairs}
use Rattle.cbor_det.specs.View.{view, pairs_view, terms_of, pairs_of}
use Rattle.cbor_det.proofs.Views.{pair_view, view_array, view_map, view_tag, view_pairs, view_pair, count_items, count_terms, count_view}

terms_push : (ts : List Term) (t : Term) → canon_terms (terms_of (ts ++ t ∷ [])) ≡ canon_terms (terms_of ts) ++ canon t
terms_push [] t = append-nil (canon t)
terms_push (u ∷ ts) t = ap (λ (o : List ℕ). canon u ++ o) (terms_push ts t) ∙ sym (append_assoc (canon u) (canon_terms (terms_of ts)) (canon t))

pairs_push : (ps : List (Term × Term)) (p : Term × Term) → canon_pairs (pairs_of (ps ++ p ∷ [])) ≡ canon_pairs (pairs_of ps) ++ (canon p.0 ++ canon p.1)
pairs_push [] p = append-nil (canon p.0 ++ canon p.1)
pairs_push (q ∷ ps) p = ap (λ (o : List ℕ). (canon q.0 ++ canon q.1) ++ o) (pairs_push ps p) ∙ sym (append_assoc (canon q.0 ++ canon q.1) (canon_pairs (pairs_of ps)) (canon p.0 ++ canon p.1))

-- one value more, written as an item
pub value_more : {A : Type 0} (f : A → Term) (xs : List A) (i : ℕ) (x : A) (start before after : List ℕ) → i < length xs → x ≡ get_or xs i x
    → before ≡ start ++ canon_terms (terms_of (map f (take i xs))) → after ≡ before ++ canon (f x) → after ≡ start ++ canon_terms (terms_of (map f (take (i + 1) xs)))
value_more {A} f xs i x start before after lt at was is =
    let more : map f (take (i + 1) xs) ≡ map f (take i xs) ++ f x ∷ [] =
    ap (λ (ys : List A). map f ys) (take_more xs i x lt ∙ ap (λ (y : A). take i xs ++ y ∷ []) (sym at)) ∙ map_push f (take i xs) x in
    is ∙ ap (λ (o : List ℕ). o ++ canon (f x)) was ∙ append_assoc start (canon_terms (terms_of (map f (take i xs)))) (canon (f x))
    ∙ ap (λ (o : List ℕ). start ++ o) (sym (terms_push (map f (take i xs)) (f x)) ∙ ap (λ (ts : List Term). canon_terms (terms_of ts)) (sym more))

-- all values, after the head of their array
pub values_end : {A : Type 0} (f : A → Term) (xs : List A) (i : ℕ) (start after : List ℕ) → length xs ≤ i
    → after ≡ start ++ short_head 4 (length xs) ++ canon_terms (terms_of (map f (take i xs))) → after ≡ start ++ canon (array (terms_of (map f xs)))
values_end {A} f xs i start after ends is =
    is ∙ ap (λ (ys : List A). start ++ short_head 4 (length xs) ++ canon_terms (terms_of (map f ys))) (take_all i xs ends)
    ∙ append_assoc start (short_head 4 (length xs)) (canon_terms (terms_of (map f xs)))
    ∙ ap (λ (n : ℕ). start ++ (short_head 4 n ++ canon_terms (terms_of (map f xs)))) (sym (count_terms (map f xs) ∙ length-map xs f))

-- one pair more
pub pair_more : (xs : List Pair) (i : ℕ) (x : Pair) (start before key after : List ℕ) → i < length xs → x ≡ get_or xs i x
    → before ≡ start ++ canon_pairs (pairs_of (map pair_view (take i xs))) → key ≡ before ++ canon (view (out-Pair x).key) → after ≡ key ++ canon (view (out-Pair x).value)
    → after ≡ start ++ canon_pairs (pairs_of (map pair_view (take (i + 1) xs)))
pair_more xs i x start before key after lt at was first second =
    let k : List ℕ = canon (view (out-Pair x).key) in
    let v : List ℕ = canon (view (out-Pair x).value) in
    let more : map pair_view (take (i + 1) xs) ≡ map pair_view (take i xs) ++ pair_view x ∷ [] =
    ap (λ (ys : List Pair). map pair_view ys) (take_more xs i x lt ∙ ap (λ (y : Pair). take i xs ++ y ∷ []) (sym at)) ∙ map_push pair_view (take i xs) x in
    second ∙ ap (λ (o : List ℕ). o ++ v) first ∙ append_assoc before k v ∙ ap (λ (o : List ℕ). o ++ (k ++ v)) was
    ∙ append_assoc start (canon_pairs (pairs_of (map pair_view (take i xs)))) (k ++ v)
    ∙ ap (λ (p : Term × Term). start ++ (canon_pairs (pairs_of (map pair_view (take i xs))) ++ (canon p.0 ++ canon p.1))) (sym (view_pair x))
    ∙ ap (λ (o : List ℕ). start ++ o) (sym (pairs_push (map pair_view (take i xs)) (pair_view x)) ∙ ap (λ (ts : List (Term × Term)). canon_pairs (pairs_of ts)) (sym more))

pub pairs_end : (p : pairs.Pairs) (xs : List Pair) (i : ℕ) (start after : List ℕ) → xs ≡ (out-Pairs p).pairs → length xs ≤ i
    → after ≡ start ++ canon_pairs (pairs_of (map pair_view (take i xs))) → after ≡ start ++ canon_pairs (pairs_view p)
pairs_end p xs i start after is all was =
    was ∙ ap (λ (ys : List Pair). start ++ canon_pairs (pairs_of (map pair_view ys))) (take_all i xs all ∙ is) ∙ ap (λ (ps : Pairs). start ++ canon_pairs ps) (sym (view_pairs p))

pub array_puts : (item : Item) (xs : List Item) (n : ℕ) (start mid after : List ℕ) → item ≡ code.Array xs → n ≡ length xs → mid ≡ start ++ short_head 4 n
    → after ≡ mid ++ canon_terms (terms_of (map view xs)) → after ≡ start ++ canon (view item)
array_puts item xs n start mid after is len first second =
    let rest : List ℕ = canon_terms (terms_of (map view xs)) in
    second ∙ ap (λ (o : List ℕ). o ++ rest) first ∙ append_assoc start (short_head 4 n) rest
    ∙ ap (λ (k : ℕ). start ++ (short_head 4 k ++ rest)) (len ∙ sym (count_items xs))
    ∙ ap (λ (t : Term). start ++ canon t) (sym (view_array xs)) ∙ ap (λ (x : Item). start ++ canon (view x)) (sym is)

pub map_puts : (item : Item) (p : pairs.Pairs) (n : ℕ) (start mid after : List ℕ) → item ≡ code.Map p → n ≡ length (out-Pairs p).pairs → mid ≡ start ++ short_head 5 n
    → after ≡ mid ++ canon_pairs (pairs_view p) → after ≡ start ++ canon (view item)
map_puts item p n start mid after is len first second =
    let rest : List ℕ = canon_pairs (pairs_view p) in
    second ∙ ap (λ (o : List ℕ). o ++ rest) first ∙ append_assoc start (short_head 5 n) rest
    ∙ ap (λ (k : ℕ). start ++ (short_head 5 k ++ rest)) (len ∙ sym (count_view p))
    ∙ ap (λ (t : Term). start ++ canon t) (sym (view_map p)) ∙ ap (λ (x : Item). start ++ canon (view x)) (sym is)

pub tag_puts : (item : Item) (n : ℕ) (u : Item) (start mid after : List ℕ) → item ≡ code.Tag n u → mid ≡ start ++ short_head 6 n → after ≡ mid ++ canon (view u) → after ≡ start ++ canon (view item)
tag_puts item n u start mid after is first second =
    second ∙ ap (λ (o : List ℕ). o ++ canon (view u)) first ∙ append_assoc start (short_head 6 n) (canon (view u))
    ∙ ap (λ (t : Term). start ++ canon t) (sym (view_tag n u)) ∙ ap (λ (x : Item). start ++ canon (view x)) (sym is)
