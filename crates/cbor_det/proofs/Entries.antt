-- The ordered map of an open map's pairs.
use Rattle.std.proofs.Common.{◌≡◌, ℕ, ◌+◌, List, [], ◌∷◌, length, map, refl, sym, ap, ◌∙◌, Bool, true, false, cond, ◌||◌, subst, add-one}
use Rattle.std.specs.Prelude.{Result, Ok, Err}
use Rattle.std.specs.Result.{OnOk, OnErr}
use Rattle.std.specs.Prelude.{Option, Some}
use Rattle.std.specs.Option.{is_some}
use Rattle.std.specs.Ordering.{nat_cmp, match_ordering, is_eq}
use Rattle.std.specs.declared.cmp.Ordering.{Ordering}
use Rattle.std.specs.declared.cmp.Ordering.TheVariants.{Less, Equal, Greater}
use Rattle.std.specs.declared.vec.Vec.{Vec}
use Rattle.std.specs.declared.alloc.Global.{Global}
use Rattle.std.specs.Str.{bytes_eq}
use Rattle.std.specs.Map.{lookup}
use Rattle.std.specs.BTreeMap.{insert_entry}
use Rattle.std.specs.Cmp.Lexicographic.{slice_cmp}
use Rattle.std.proofs.lemmas.Map.Text.{is_eq-slice_cmp}
use Rattle.std.proofs.lemmas.Slice.Eq.{bytes_eq-Decides}
use Rattle.std.proofs.lemmas.List.Elements.{All-cons, All-head, All-tail}
use Rattle.cbor_det.specs.declared.item.Pair.{Pair, out-Pair}
use Rattle.cbor_det.specs.Term.{Term, Pairs, pair, pair_count}
use Rattle.cbor_det.specs.Canonical.{canon}
use Rattle.cbor_det.specs.declared.item.Item.{the_lemmas}
use Rattle.cbor_det.specs.declared.item.Item.TheViews.{roll-Pairs}
use Rattle.std.proofs.Common.{rules}
use Rattle.cbor_det.specs.View.{view, pairs_of, pairs_view}
use Rattle.cbor_det.specs.Machine.{is_held, insert}
use Rattle.cbor_det.specs.Open.{Entry, entries_view, AreSpelled}
use Rattle.cbor_det.proofs.Views.{pair_view, view_pair}

abbrev Spelled : Entry → Type 0
Spelled e = e.0.items ≡ canon (view (out-Pair e.1).key)

abbrev octets_cmp : Vec ℕ Global → Vec ℕ Global → Ordering
octets_cmp x y = slice_cmp nat_cmp x.items y.items

pub entries_count : (es : List Entry) → length es ≡ pair_count (entries_view es)
entries_count [] = refl
entries_count (e ∷ es) = sym (add-one (length es)) ∙ ap (λ (n : ℕ). n + 1) (entries_count es)

found : (b : Bool) (p : Pair) (o : Option Pair) (c : Bool) → is_some o ≡ c → is_some (cond b (Some p) o) ≡ b || c
found true p o c e = refl
found false p o c e = e

pub entries_held : (es : List Entry) (s : List ℕ) → AreSpelled es → is_some (lookup (λ (k : Vec ℕ Global). is_eq (slice_cmp nat_cmp s k.items)) es) ≡ is_held (entries_view es) s
entries_held [] s are = refl
entries_held (e ∷ es) s are =
    let here : is_eq (slice_cmp nat_cmp s e.0.items) ≡ bytes_eq s (canon (view (out-Pair e.1).key)) =
    is_eq-slice_cmp s e.0.items ∙ ap (λ (o : List ℕ). bytes_eq s o) (All-head Spelled e es are) in
    found (is_eq (slice_cmp nat_cmp s e.0.items)) e.1 (lookup (λ (k : Vec ℕ Global). is_eq (slice_cmp nat_cmp s k.items)) es) (is_held (entries_view es) s) (entries_held es s (All-tail Spelled e es are))
    ∙ ap (λ (b : Bool). b || is_held (entries_view es) s) here

equal_octets : (x y : List ℕ) → slice_cmp nat_cmp x y ≡ Equal → x ≡ y
equal_octets x y e = (bytes_eq-Decides x y).0 (sym (is_eq-slice_cmp x y) ∙ ap (λ (o : Ordering). is_eq o) e)

module _ (s : Vec ℕ Global) (p : Pair) where
  abbrev key_of : Term
  key_of = view (out-Pair p).key

  abbrev value_of : Term
  value_of = view (out-Pair p).value

  view_by : (e : Entry) (es : List Entry) (o : Ordering) → entries_view (insert_entry octets_cmp es s p) ≡ insert key_of value_of (entries_view es)
      → entries_view (match_ordering o ((s, p) ∷ e ∷ es) ((e.0, p) ∷ es) (e ∷ insert_entry octets_cmp es s p))
      ≡ match_ordering o (pair key_of value_of (entries_view (e ∷ es))) (pair key_of value_of (entries_view es)) (pair (view (out-Pair e.1).key) (view (out-Pair e.1).value) (insert key_of value_of (entries_view es)))
  view_by e es Less same = refl
  view_by e es Equal same = refl
  view_by e es Greater same = ap (λ (ps : Pairs). pair (view (out-Pair e.1).key) (view (out-Pair e.1).value) ps) same

  pub entries_insert : (es : List Entry) → AreSpelled es → s.items ≡ canon key_of → entries_view (insert_entry octets_cmp es s p) ≡ insert key_of value_of (entries_view es)
  entries_insert [] are is = refl
  entries_insert (e ∷ es) are is =
      let cmp : octets_cmp s e.0 ≡ slice_cmp nat_cmp (canon key_of) (canon (view (out-Pair e.1).key)) =
      ap (λ (x : List ℕ). slice_cmp nat_cmp x e.0.items) is ∙ ap (λ (x : List ℕ). slice_cmp nat_cmp (canon key_of) x) (All-head Spelled e es are) in
      view_by e es (octets_cmp s e.0) (entries_insert es (All-tail Spelled e es are) is)
      ∙ ap (λ (o : Ordering). match_ordering o (pair key_of value_of (entries_view (e ∷ es))) (pair key_of value_of (entries_view es)) (pair (view (out-Pair e.1).key) (view (out-Pair e.1).value) (insert key_of value_of (entries_view es)))) cmp

  spelled_by : (e : Entry) (es : List Entry) (o : Ordering) → octets_cmp s e.0 ≡ o → AreSpelled (e ∷ es) → s.items ≡ canon key_of → AreSpelled (insert_entry octets_cmp es s p)
      → AreSpelled (match_ordering o ((s, p) ∷ e ∷ es) ((e.0, p) ∷ es) (e ∷ insert_entry octets_cmp es s p))
  spelled_by e es Less f are is more = All-cons Spelled (s, p) (e ∷ es) is are
  spelled_by e es Equal f are is more = All-cons Spelled (e.0, p) es (sym (equal_octets s.items e.0.items f) ∙ is) (All-tail Spelled e es are)
  spelled_by e es Greater f are is more = All-cons Spelled e (insert_entry octets_cmp es s p) (All-head Spelled e es are) more

  pub entries_spelled : (es : List Entry) → AreSpelled es → s.items ≡ canon key_of → AreSpelled (insert_entry octets_cmp es s p)
  entries_spelled [] are is = All-cons Spelled (s, p) [] is are
  entries_spelled (e ∷ es) are is = spelled_by e es (octets_cmp s e.0) refl are is (entries_spelled es (All-tail Spelled e es are) is)

pub entries_pairs : (es : List Entry) → pairs_of (map pair_view (map (λ (e : Entry). e.1) es)) ≡ entries_view es
entries_pairs [] = refl
entries_pairs (e ∷ es) =
    ap (λ (p : Term × Term). pair p.0 p.1 (pairs_of (map pair_view (map (λ (x : Entry). x.1) es)))) (view_pair e.1)
    ∙ ap (λ (ps : Pairs). pair (view (out-Pair e.1).key) (view (out-Pair e.1).value) ps) (entries_pairs es)

pub made_pairs : (xs : List Pair) → pairs_view (roll-Pairs (record { pairs = xs })) ≡ pairs_of (map pair_view xs)
made_pairs xs = search (rules, the_lemmas)

-- what an insertion leaves, whatever it answers
pub kept_by : {T E : Type 0} (r : Result T E) (old new fs : List Entry) → OnOk r (new ≡ fs) → OnErr r (new ≡ old) → AreSpelled old → AreSpelled fs → AreSpelled new
kept_by (Ok t) old new fs ok err are more = let P : List Entry → Type 0 = λ es. AreSpelled es in subst P (sym ok) more
kept_by (Err e) old new fs ok err are more = let P : List Entry → Type 0 = λ es. AreSpelled es in subst P (sym err) are
