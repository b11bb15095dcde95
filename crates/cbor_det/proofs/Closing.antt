-- What the code makes of an item, as the machine does.
use Rattle.std.proofs.Common.{◌≡◌, ℕ, suc, ◌+◌, ◌-◌, ◌<◌, get_or, set, take, arith, List, [], ◌∷◌, ◌++◌, length, map, refl, sym, ap, ◌∙◌, Bool, true, false, not, Option, None, Some}
use Rattle.std.proofs.lemmas.List.{map_push, nil_from_length, set_split, drop_all, take_all, take_at, take_more, length-take-le}
use Rattle.std.specs.Vec.{vec_len}
use Rattle.std.specs.declared.vec.Vec.{Vec}
use Rattle.std.specs.declared.alloc.Global.{Global}
use Rattle.std.proofs.lemmas.Bool.{cond-true, cond-false, both_ways}
use Rattle.cbor_det.specs.declared.item.Item.{Item}
use Rattle.cbor_det.specs.declared.item.Item.TheVariants as code
use Rattle.cbor_det.specs.declared.item.Pairs as pairs
use Rattle.cbor_det.specs.declared.frame.Frame.{Frame}
use Rattle.cbor_det.specs.declared.frame.Frame.TheVariants as frame
use Rattle.cbor_det.specs.declared.string_kind.StringKind.{StringKind}
use Rattle.cbor_det.specs.Term.{Term, Terms, Pairs, array, map as map_term, tagged, term, count, pair_count, plus}
use Rattle.cbor_det.specs.Canonical.{canon}
use Rattle.cbor_det.specs.View.{view, terms_of, pairs_view}
use Rattle.cbor_det.specs.Faults.{Place, top, at_chunk, at_element, at_key, at_value, at_content}
use Rattle.cbor_det.specs.Machine.{State, due, whole, faulty, item_ended, is_full, is_held}
use Rattle.cbor_det.specs.Standing.{inside, within, place, map_place}
use Rattle.cbor_det.specs.Open.{IsTaken, is_whole}
use Rattle.cbor_det.proofs.Views.{view_array, view_map, view_tag, count_items}

terms_plus : (ts : List Term) (t : Term) → terms_of (ts ++ t ∷ []) ≡ plus (terms_of ts) t
terms_plus [] t = refl
terms_plus (u ∷ ts) t = ap (λ (us : Terms). term u us) (terms_plus ts t)

pushed : (xs ys : List Item) (x : Item) → ys ≡ xs ++ x ∷ [] → terms_of (map view ys) ≡ plus (terms_of (map view xs)) (view x)
pushed xs ys x is = ap (λ (zs : List Item). terms_of (map view zs)) is ∙ ap (λ (ts : List Term). terms_of ts) (map_push view xs x) ∙ terms_plus (map view xs) (view x)

count_pushed : (xs ys : List Item) (x : Item) (n : ℕ) → ys ≡ xs ++ x ∷ [] → n ≡ length ys → n ≡ count (plus (terms_of (map view xs)) (view x))
count_pushed xs ys x n is len = len ∙ sym (count_items ys) ∙ ap (λ (ts : Terms). count ts) (pushed xs ys x is)

pub element_open : (at : ℕ) (all : Option ℕ) (xs ys : List Item) (x : Item) (n : ℕ) (full : Bool) (p : Place) (began : ℕ) → ys ≡ xs ++ x ∷ [] → n ≡ length ys → full ≡ is_full all n → full ≡ false
    → due (inside p (frame.Elements at all ys)) ≡ item_ended (at_element at all (terms_of (map view xs)) p) began (view x)
unfolding item_ended
element_open at all xs ys x n full p began is len test free =
    ap (λ (ts : Terms). due (at_element at all ts p)) (pushed xs ys x is)
    ∙ sym (cond-false _ _ _ (ap (λ (k : ℕ). is_full all k) (sym (count_pushed xs ys x n is len)) ∙ sym test ∙ free))

pub element_ends : (at : ℕ) (all : Option ℕ) (xs ys : List Item) (x : Item) (n : ℕ) (full : Bool) (p : Place) (began : ℕ) → ys ≡ xs ++ x ∷ [] → n ≡ length ys → full ≡ is_full all n → full ≡ true
    → item_ended p at (view (code.Array ys)) ≡ item_ended (at_element at all (terms_of (map view xs)) p) began (view x)
unfolding item_ended
element_ends at all xs ys x n full p began is len test so =
    ap (λ (t : Term). item_ended p at t) (view_array ys) ∙ ap (λ (ts : Terms). item_ended p at (array ts)) (pushed xs ys x is)
    ∙ sym (cond-true _ _ _ (ap (λ (k : ℕ). is_full all k) (sym (count_pushed xs ys x n is len)) ∙ sym test ∙ so))

free_key : (held free : Bool) → free ≡ not held → free ≡ true → held ≡ false
free_key false free test so = refl
free_key true free test so = absurd (both_ways free test so)

held_key : (held free : Bool) → free ≡ not held → free ≡ false → held ≡ true
held_key true free test lie = refl
held_key false free test lie = absurd (both_ways free lie test)

-- an open map takes a key or a value
module _ (at : ℕ) (all : Option ℕ) (ps more : Pairs) (t : Term) (p : Place) (began : ℕ) where
  pub member_held : (key next : Option Term) (free : Bool) → IsTaken ps key t free more next → free ≡ false → faulty 8 began ≡ item_ended (map_place at all ps key p) began t
  unfolding item_ended
  member_held None next free taken lie = sym (cond-true _ _ _ (held_key (is_held ps (canon t)) free taken.0 lie))
  member_held (Some k) next free taken lie = absurd (both_ways free lie taken.0)

  pub member_open : (key next : Option Term) (free all_in : Bool) → IsTaken ps key t free more next → free ≡ true → all_in ≡ is_whole all more next → all_in ≡ false
      → due (map_place at all more next p) ≡ item_ended (map_place at all ps key p) began t
  unfolding item_ended
  member_open None next free all_in taken so test more_due =
      ap (λ (k : Option Term). due (map_place at all more k p)) (taken.1 so).1 ∙ ap (λ (qs : Pairs). due (at_value at all qs t p)) (taken.1 so).0
      ∙ sym (cond-false _ _ _ (free_key (is_held ps (canon t)) free taken.0 so))
  member_open (Some k) next free all_in taken so test more_due =
      ap (λ (o : Option Term). due (map_place at all more o p)) taken.2 ∙ ap (λ (qs : Pairs). due (at_key at all qs p)) taken.1
      ∙ sym (cond-false _ _ _ (ap (λ (qs : Pairs). is_full all (pair_count qs)) (sym taken.1) ∙ ap (λ (o : Option Term). is_whole all more o) (sym taken.2) ∙ sym test ∙ more_due))

  pub member_ends : (key next : Option Term) (free all_in : Bool) (made : pairs.Pairs) → IsTaken ps key t free more next → free ≡ true → all_in ≡ is_whole all more next → all_in ≡ true
      → pairs_view made ≡ more → item_ended p at (view (code.Map made)) ≡ item_ended (map_place at all ps key p) began t
  unfolding item_ended
  member_ends None next free all_in made taken so test ends is =
      absurd (both_ways all_in (test ∙ ap (λ (o : Option Term). is_whole all more o) (taken.1 so).1) ends)
  member_ends (Some k) next free all_in made taken so test ends is =
      ap (λ (u : Term). item_ended p at u) (view_map made) ∙ ap (λ (qs : Pairs). item_ended p at (map_term qs)) (is ∙ taken.1)
      ∙ sym (cond-true _ _ _ (ap (λ (qs : Pairs). is_full all (pair_count qs)) (sym taken.1) ∙ ap (λ (o : Option Term). is_whole all more o) (sym taken.2) ∙ sym test ∙ ends))

pub content_ends : (at n : ℕ) (u : Item) (item : Item) (p : Place) (began : ℕ) → u ≡ item → item_ended p at (view (code.Tag n u)) ≡ item_ended (at_content at n p) began (view item)
unfolding item_ended
content_ends at n u item p began is = ap (λ (t : Term). item_ended p at t) (view_tag n u) ∙ ap (λ (i : Item). item_ended p at (tagged n (view i))) is

pub chunk_refused : (at : ℕ) (kind : StringKind) (s : List ℕ) (p : Place) (began : ℕ) (t : Term) → faulty 2 began ≡ item_ended (at_chunk at kind s p) began t
unfolding item_ended
chunk_refused at kind s p began t = refl

-- the last frame is the innermost
pub within_last : (p : Place) (fs : List Frame) (f : Frame) → within p (fs ++ f ∷ []) ≡ inside (within p fs) f
within_last p [] f = refl
within_last p (g ∷ fs) f = within_last (inside p g) fs f

-- all frames but the last
abbrev pub round : List Frame → ℕ → List Frame
round fs len = take (len - 1) fs

-- the last frame, and another in its place
module _ (fs : List Frame) (len : ℕ) (f g : Frame) (is : len ≡ length fs) (some : 0 < length fs) (at : f ≡ get_or fs (len - 1) f) where
  pub last_there : fs ≡ round fs len ++ f ∷ []
  last_there = sym (take_all (len - 1 + 1) fs (omega arith)) ∙ take_more fs (len - 1) f (omega arith) ∙ ap (λ (h : Frame). round fs len ++ h ∷ []) (sym at)

  pub last_put : set fs (len - 1) g ≡ round fs len ++ g ∷ []
  last_put = set_split fs (len - 1) g (omega arith) ∙ ap (λ (hs : List Frame). round fs len ++ g ∷ hs) (drop_all (suc (len - 1)) fs (omega arith))

  pub last_left : (n : ℕ) → n ≡ len - 1 → take n (set fs (len - 1) g) ≡ round fs len
  last_left n e =
      ap (λ (k : ℕ). take k (set fs (len - 1) g)) e ∙ ap (λ (hs : List Frame). take (len - 1) hs) last_put
      ∙ take_at (round fs len) (g ∷ []) (len - 1) (length-take-le (len - 1) fs (omega arith))

-- the innermost construct takes an item
pub popped : (fs gs : List Frame) (f : Frame) (at : ℕ) (t : Term) (σ : State) → fs ≡ gs ++ f ∷ [] → σ ≡ item_ended (inside (place gs) f) at t → σ ≡ item_ended (place fs) at t
popped fs gs f at t σ is goes = goes ∙ ap (λ (p : Place). item_ended p at t) (sym (within_last top gs f)) ∙ ap (λ (hs : List Frame). item_ended (place hs) at t) (sym is)

pub pushed_due : (gs hs : List Frame) (f : Frame) → hs ≡ gs ++ f ∷ [] → due (place hs) ≡ due (inside (place gs) f)
pushed_due gs hs f is = ap (λ (fs : List Frame). due (place fs)) is ∙ ap (λ (p : Place). due p) (within_last top gs f)

pub none_left : (fs : List Frame) (at : ℕ) (t : Term) → fs ≡ [] → whole t ≡ item_ended (place fs) at t
unfolding item_ended
none_left fs at t is = ap (λ (gs : List Frame). item_ended (place gs) at t) (sym is)

pub empty_items : (v : Vec Frame Global) → vec_len v ≡ length v.items → vec_len v ≡ 0 → v.items ≡ []
empty_items v len none = nil_from_length v.items (sym len ∙ none)
