-- Records of rising identifiers, and where one stands among them.
use Rattle.std.proofs.Common.{◌≡◌, inl, inr, ℕ, zero, suc, ◌+◌, ◌<◌, ◌≤◌, eqb, Option, Some, None, List, [], ◌∷◌, ◌++◌, length, get_or, take, drop, refl, sym, ap, ◌∙◌, subst, arith, eq-eqb, ne_eqb}
use Rattle.std.specs.Prelude.{Result, Ok, Err, slice_get}
use Rattle.std.specs.Cmp.{ranks}
use Rattle.std.specs.List.Sorted.{IsStrictlyIncreasing, IsBinarySearchResult, IsSearchInRange}
use Rattle.std.specs.Option.{option_or}
use Rattle.std.specs.Ordering.{MatchOrdering, nat_cmp, ordering_index}
use Rattle.std.specs.Result.{result_ok}
use Rattle.std.specs.declared.cmp.Ordering.{Ordering}
use Rattle.std.specs.declared.cmp.Ordering.TheVariants.{Less, Equal, Greater}
use Rattle.std.proofs.lemmas.Bool.{cases_lt, cond-true, cond-false}
use Rattle.std.proofs.lemmas.List.{map-append, take-append-drop, drop_more, length-append, length-take, get_or-map, length-map}
use Rattle.std.proofs.lemmas.List.Folds.{find-append}
use Rattle.std.proofs.lemmas.Option.{slice_get-get_or}
use Rattle.swima_model.specs.declared.record.Record.{Record}
use Rattle.swima_model.specs.InOrder.{ids}
use Rattle.swima_model.specs.Live.{record_of}
use Rattle.swima_model.specs.Places.{IsPlaceOf}
use Rattle.swima_model.proofs.Rises.{AllFrom, does_not_fall}
use Rattle.swima_model.proofs.Living.{strict_rest, strict_from, strict_rises}

-- ---- numbers that climb

abbrev pub Climbs : List ℕ → Type 0
Climbs [] = Unit {0}
Climbs (x ∷ xs) = AllFrom (suc x) xs × Climbs xs

pub climbs : (xs : List ℕ) → IsStrictlyIncreasing xs → Climbs xs
climbs [] up = tt
climbs (x ∷ xs) up = (strict_from x xs up, climbs xs (strict_rest x xs up))

pub climbed : (xs : List ℕ) → Climbs xs → IsStrictlyIncreasing xs
climbed [] h k lt = absurd (omega arith)
climbed (x ∷ []) h k lt = absurd (omega arith)
climbed (x ∷ y ∷ ys) h zero lt = omega (arith, h.0.0)
climbed (x ∷ y ∷ ys) h (suc k) lt =
    let e : suc (k + 1) ≡ suc k + 1 = omega arith in
    subst (λ (m : ℕ). get_or (y ∷ ys) k 0 < get_or (x ∷ y ∷ ys) m 0) e (climbed (y ∷ ys) h.1 k (omega (arith, lt)))

pub from_left : (n : ℕ) (xs ys : List ℕ) → AllFrom n (xs ++ ys) → AllFrom n xs
from_left n [] ys h = tt
from_left n (x ∷ xs) ys h = (h.0, from_left n xs ys h.1)

pub from_right : (n : ℕ) (xs ys : List ℕ) → AllFrom n (xs ++ ys) → AllFrom n ys
from_right n [] ys h = h
from_right n (x ∷ xs) ys h = from_right n xs ys h.1

pub from_both : (n : ℕ) (xs ys : List ℕ) → AllFrom n xs → AllFrom n ys → AllFrom n (xs ++ ys)
from_both n [] ys h g = g
from_both n (x ∷ xs) ys h g = (h.0, from_both n xs ys h.1 g)

pub climbs_left : (xs ys : List ℕ) → Climbs (xs ++ ys) → Climbs xs
climbs_left [] ys h = tt
climbs_left (x ∷ xs) ys h = (from_left (suc x) xs ys h.0, climbs_left xs ys h.1)

pub climbs_right : (xs ys : List ℕ) → Climbs (xs ++ ys) → Climbs ys
climbs_right [] ys h = h
climbs_right (x ∷ xs) ys h = climbs_right xs ys h.1

pub climbs_push : (xs : List ℕ) (x y : ℕ) → Climbs (xs ++ x ∷ []) → x < y → Climbs ((xs ++ x ∷ []) ++ y ∷ [])
climbs_push [] x y h lt = ((omega (arith, lt), tt), (tt, tt))
climbs_push (z ∷ xs) x y h lt =
    let above : suc z ≤ x = (from_right (suc z) xs (x ∷ []) h.0).0 in
    (from_both (suc z) (xs ++ x ∷ []) (y ∷ []) h.0 (omega (arith, above, lt), tt), climbs_push xs x y h.1 lt)

pub climbs_without : (xs : List ℕ) (x : ℕ) (ys : List ℕ) → Climbs (xs ++ x ∷ ys) → Climbs (xs ++ ys)
climbs_without [] x ys h = h.1
climbs_without (z ∷ xs) x ys h =
    (from_both (suc z) xs ys (from_left (suc z) xs (x ∷ ys) h.0) (from_right (suc z) xs (x ∷ ys) h.0).1, climbs_without xs x ys h.1)

-- ---- the record of an identifier

pub none_before : (id : ℕ) (rs : List Record) (rest : List ℕ) → Climbs (ids rs ++ id ∷ rest) → record_of id rs ≡ None
none_before id [] rest h = refl
none_before id (r ∷ rs) rest h =
    let above : suc r.id ≤ id = (from_right (suc r.id) (ids rs) (id ∷ rest) h.0).0 in
    cond-false (eqb r.id id) (Some r) (record_of id rs) (ne_eqb r.id id (λ same. omega (arith, above, same))) ∙ none_before id rs rest h.1

pub none_above : (id n : ℕ) (rs : List Record) → id < n → AllFrom n (ids rs) → record_of id rs ≡ None
none_above id n [] lt h = refl
none_above id n (r ∷ rs) lt h = cond-false (eqb r.id id) (Some r) (record_of id rs) (ne_eqb r.id id (λ same. omega (arith, lt, h.0, same))) ∙ none_above id n rs lt h.1

pub none_or : (o : Option Record) → option_or o None ≡ o
none_or None = refl
none_or (Some r) = refl

pub record_append : (id : ℕ) (xs ys : List Record) → record_of id (xs ++ ys) ≡ option_or (record_of id xs) (record_of id ys)
record_append id xs ys = find-append (λ (r : Record). eqb r.id id) xs ys

-- ---- where a search ends

by_order : (a b x : ℕ) (o p : Ordering) → a ≤ b → MatchOrdering o (a < x) (a ≡ x) (x < a) → MatchOrdering p (b < x) (b ≡ x) (x < b) → ordering_index o ≤ ordering_index p
by_order a b x Less Less le l r = omega arith
by_order a b x Less Equal le l r = omega arith
by_order a b x Less Greater le l r = omega arith
by_order a b x Equal Less le l r = absurd (omega (arith, le, l, r))
by_order a b x Equal Equal le l r = omega arith
by_order a b x Equal Greater le l r = omega arith
by_order a b x Greater Less le l r = absurd (omega (arith, le, l, r))
by_order a b x Greater Equal le l r = absurd (omega (arith, le, l, r))
by_order a b x Greater Greater le l r = omega arith

same_at : (a x : ℕ) → nat_cmp a x ≡ Equal → a ≡ x
same_at a x e = subst (λ (o : Ordering). MatchOrdering o (a < x) (a ≡ x) (x < a)) e (ranks a x)

less_at : (a x : ℕ) → nat_cmp a x ≡ Less → a < x
less_at a x e = subst (λ (o : Ordering). MatchOrdering o (a < x) (a ≡ x) (x < a)) e (ranks a x)

greater_at : (a x : ℕ) → nat_cmp a x ≡ Greater → x < a
greater_at a x e = subst (λ (o : Ordering). MatchOrdering o (a < x) (a ≡ x) (x < a)) e (ranks a x)

nowhere : (id : ℕ) (rs : List Record) → ((k : ℕ) (d : Record) → k < length rs → (get_or rs k d).id ≡ id → ⊥) → record_of id rs ≡ None
nowhere id [] none = refl
nowhere id (r ∷ rs) none =
    cond-false (eqb r.id id) (Some r) (record_of id rs) (ne_eqb r.id id (none 0 r (omega arith)))
    ∙ nowhere id rs (λ k d lt. none (suc k) d (omega (arith, lt)))

pub at_place : (rs : List Record) (place : ℕ) (d : Record) → place < length rs → rs ≡ take place rs ++ get_or rs place d ∷ drop (place + 1) rs
at_place rs place d lt =
    sym (take-append-drop place rs) ∙ ap (λ (l : List Record). take place rs ++ l) (drop_more rs place d lt)

not_falling : (rs : List Record) → IsStrictlyIncreasing (ids rs) → (i j : ℕ) (d : Record) → i ≤ j → j < length rs → (get_or rs i d).id ≤ (get_or rs j d).id
not_falling rs up i j d le lt =
    let at : get_or (ids rs) i d.id ≤ get_or (ids rs) j d.id = does_not_fall (ids rs) (strict_rises (ids rs) up) i j d.id le (omega (arith, lt, length-map rs (λ (r : Record). r.id))) in
    omega (arith, at, get_or-map (λ (r : Record). r.id) rs i d, get_or-map (λ (r : Record). r.id) rs j d)

pub place_is : (rs : List Record) (id : ℕ) (found : Result ℕ ℕ) → IsStrictlyIncreasing (ids rs) → IsSearchInRange found (length rs) → IsBinarySearchResult (λ (r : Record). nat_cmp r.id id) rs found → IsPlaceOf rs id (result_ok found)
place_is [] id (Ok place) up within is = absurd (omega (arith, within))
place_is (first ∷ others) id (Ok place) up within is = (
  take place (first ∷ others),
  get_or (first ∷ others) place first,
  drop (place + 1) (first ∷ others),
  at_place (first ∷ others) place first within,
  omega (arith, length-take place (first ∷ others), within),
  same_at (get_or (first ∷ others) place first).id id (is first),
)
place_is rs id (Err place) up within is =
    let parts = is (λ i j d le lt. by_order (get_or rs i d).id (get_or rs j d).id id (nat_cmp (get_or rs i d).id id) (nat_cmp (get_or rs j d).id id) (not_falling rs up i j d le lt) (ranks (get_or rs i d).id id) (ranks (get_or rs j d).id id)) in
    nowhere id rs (λ k d lt same. elim (cases_lt k place) [
      | inl below ↦ absurd (omega (arith, less_at (get_or rs k d).id id (parts.0 k d (omega arith) below), same))
      | inr above ↦ absurd (omega (arith, greater_at (get_or rs k d).id id (parts.1 k d above lt), same))
    ])

-- What stands at a place.
at_seam : (before : List Record) (held : Record) (after : List Record) → slice_get (before ++ held ∷ after) (length before) ≡ Some held
at_seam [] held after = refl
at_seam (r ∷ before) held after = at_seam before held after

pub found_at : (id place : ℕ) (rs : List Record) → IsStrictlyIncreasing (ids rs) → IsPlaceOf rs id (Some place) → slice_get rs place ≡ record_of id rs
found_at id place rs up (before, held, after, is, at, named) =
    let here : Climbs (ids before ++ id ∷ ids after) =
    subst (λ (n : ℕ). Climbs (ids before ++ n ∷ ids after)) named
    (subst Climbs (map-append (λ (r : Record). r.id) before (held ∷ after)) (climbs (ids (before ++ held ∷ after)) (subst (λ (xs : List Record). IsStrictlyIncreasing (ids xs)) is up))) in
    let found : record_of id (before ++ held ∷ after) ≡ Some held =
    record_append id before (held ∷ after)
    ∙ ap (λ (o : Option Record). option_or o (record_of id (held ∷ after))) (none_before id before (ids after) here)
    ∙ cond-true (eqb held.id id) (Some held) (record_of id after) (eq-eqb held.id id named) in
    ap (λ (xs : List Record). slice_get xs place) is ∙ ap (slice_get (before ++ held ∷ after)) at ∙ at_seam before held after
    ∙ sym (ap (record_of id) is ∙ found)

pub found_item : (id place : ℕ) (rs : List Record) (item : Record) → IsStrictlyIncreasing (ids rs) → IsPlaceOf rs id (Some place) → item ≡ get_or rs place item → Some item ≡ record_of id rs
found_item id place rs item up at got =
    let within : place < length rs = omega (arith, at.4, ap length at.3, length-append at.0 (at.1 ∷ at.2)) in
    ap (λ (r : Record). Some r) got ∙ sym (slice_get-get_or rs place item within) ∙ found_at id place rs up at
