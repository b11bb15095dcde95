-- Places of records: what stands there, and what stands there after each change of one.
use Rattle.std.proofs.Common.{◌≡◌, inl, inr, ℕ, suc, ◌+◌, ◌≤◌, eqb, cond, Bool, true, false, Option, Some, None, List, [], ◌∷◌, ◌++◌, length, refl, sym, ap, ◌∙◌, subst, append_assoc, arith, eq-eqb, eqb-true, ne_eqb}
use Rattle.std.specs.Prelude.{filter, is_some, option_to_list}
use Rattle.std.specs.List.Sorted.{IsStrictlyIncreasing}
use Rattle.std.specs.Map.{keys_of, lookup, set_value}
use Rattle.std.specs.Option.{unwrap_or}
use Rattle.std.proofs.lemmas.Bool.{cases_eq, cond-true, cond-false}
use Rattle.std.proofs.lemmas.List.{map-append, length-append}
use Rattle.swima_model.specs.declared.record.Content.{Content}
use Rattle.swima_model.specs.declared.record.Record.{Record}
use Rattle.swima_model.specs.InOrder.{ids}
use Rattle.swima_model.specs.Live.{record_of}
use Rattle.swima_model.proofs.Rises.{AllFrom}
use Rattle.swima_model.proofs.Places.{Climbs, climbs, climbed, climbs_left, climbs_push, from_right, none_above}
use Rattle.collector_core.specs.Places.{AreFewEmpty, AreOwn, ArePlaces, IsOwn, Place, Puts, Takes, held_at, standing}

-- ---- what stands at places one after another

standing_append : (xs ys : List Place) → standing (xs ++ ys) ≡ standing xs ++ standing ys
standing_append [] ys = refl
standing_append (p ∷ xs) ys =
    ap (λ (l : List Record). option_to_list p.1 ++ l) (standing_append xs ys) ∙ sym (append_assoc (option_to_list p.1) (standing xs) (standing ys))

own_left : (xs ys : List Place) → AreOwn (xs ++ ys) → AreOwn xs
own_left [] ys own = tt
own_left (p ∷ xs) ys own = (own.0, own_left xs ys own.1)

own_right : (xs ys : List Place) → AreOwn (xs ++ ys) → AreOwn ys
own_right [] ys own = own
own_right (p ∷ xs) ys own = own_right xs ys own.1

own_both : (xs ys : List Place) → AreOwn xs → AreOwn ys → AreOwn (xs ++ ys)
own_both [] ys own others = others
own_both (p ∷ xs) ys own others = (own.0, own_both xs ys own.1 others)

above_step : (n id : ℕ) (held : Option Record) (rest : List Record) → n ≤ id → IsOwn id held → AllFrom n (ids rest) → AllFrom n (ids (option_to_list held ++ rest))
above_step n id None rest le own h = h
above_step n id (Some r) rest le own h = (omega (arith, le, own), h)

pub above : (n : ℕ) (ps : List Place) → AllFrom n (keys_of ps) → AreOwn ps → AllFrom n (ids (standing ps))
above n [] h own = tt
above n (p ∷ ps) h own = above_step n p.0 p.1 (standing ps) h.0 own.0 (above n ps h.1 own.1)

-- ---- the record of an identifier

skipped : (id at : ℕ) (held : Option Record) (rest : List Record) → IsOwn at held → (at ≡ id → ⊥) → record_of id (option_to_list held ++ rest) ≡ record_of id rest
skipped id at None rest own other = refl
skipped id at (Some r) rest own other = cond-false (eqb r.id id) (Some r) (record_of id rest) (ne_eqb r.id id (λ same. other (sym own ∙ same)))

found : (id : ℕ) (held : Option Record) (rest : List Record) → IsOwn id held → record_of id rest ≡ None → record_of id (option_to_list held ++ rest) ≡ held
found id None rest own none = none
found id (Some r) rest own none = cond-true (eqb r.id id) (Some r) (record_of id rest) (eq-eqb r.id id own)

record_at : (id : ℕ) (ps : List Place) → Climbs (keys_of ps) → AreOwn ps → record_of id (standing ps) ≡ held_at id ps
record_at id [] up own = refl
record_at id (p ∷ ps) up own = elim (cases_eq id p.0) [
  | inl here ↦
      found id p.1 (standing ps) (subst (λ (n : ℕ). IsOwn n p.1) (sym here) own.0) (none_above id (suc p.0) (standing ps) (omega (arith, here)) (above (suc p.0) ps up.0 own.1))
      ∙ sym (ap (λ (b : Bool). unwrap_or (cond b (Some p.1) (lookup (eqb id) ps)) None) (eq-eqb id p.0 here))
  | inr other ↦
      skipped id p.0 p.1 (standing ps) own.0 (λ same. other (sym same))
      ∙ record_at id ps up.1 own.1
      ∙ sym (ap (λ (b : Bool). unwrap_or (cond b (Some p.1) (lookup (eqb id) ps)) None) (ne_eqb id p.0 other))
]

-- No place has the next identifier.
absent_above : (n : ℕ) (ps : List Place) → Climbs (keys_of ps ++ n ∷ []) → lookup (eqb n) ps ≡ None
absent_above n [] up = refl
absent_above n (p ∷ ps) up =
    let over : suc p.0 ≤ n = (from_right (suc p.0) (keys_of ps) (n ∷ []) up.0).0 in
    ap (λ (b : Bool). cond b (Some p.1) (lookup (eqb n) ps)) (ne_eqb n p.0 (λ same. omega (arith, over, same))) ∙ absent_above n ps up.1

module _ (next empty : ℕ) (ps : List Place) (is : ArePlaces next empty ps) where
  up : Climbs (keys_of ps ++ next ∷ [])
  up = climbs (keys_of ps ++ next ∷ []) is.rising

  pub stands_at : (id : ℕ) → record_of id (standing ps) ≡ held_at id ps
  stands_at id = record_at id ps (climbs_left (keys_of ps) (next ∷ []) up) is.own

  pub next_absent : lookup (eqb next) ps ≡ None
  next_absent = absent_above next ps up

-- ---- a place that changes

-- At the place of the identifier stood one thing, and now stands another.
abbrev pub Exchanges : ℕ → List Place → Option Record → List Place → Option Record → Type 0
Exchanges id old stood new held = (before : List Place) × (after : List Place) × (old ≡ before ++ (id, stood) ∷ after) × (new ≡ before ++ (id, held) ∷ after)

inner : (a b : Option Record) → Some a ≡ Some b → a ≡ b
inner a b is = cc

same_place : (id : ℕ) (p : Place) (stood : Option Record) → id ≡ p.0 → Some p.1 ≡ Some stood → p ≡ (id, stood)
same_place id p stood here there = ap (λ (n : ℕ). (n, p.1)) (sym here) ∙ ap (λ (o : Option Record). (id, o)) (inner p.1 stood there)

exchange_step : (b : Bool) (id : ℕ) (p : Place) (ps now : List Place) (stood held : Option Record) → eqb id p.0 ≡ b → cond b (Some p.1) (lookup (eqb id) ps) ≡ Some stood
    → (lookup (eqb id) ps ≡ Some stood → Exchanges id ps stood now held) → Exchanges id (p ∷ ps) stood (cond b ((p.0, held) ∷ ps) (p ∷ now)) held
exchange_step true id p ps now stood held at there rest =
    let here : id ≡ p.0 = eqb-true id p.0 at in
    ([], ps, ap (λ (q : Place). q ∷ ps) (same_place id p stood here there), ap (λ (n : ℕ). (n, held) ∷ ps) (sym here))
exchange_step false id p ps now stood held at there rest =
    let others = rest there in
    (p ∷ others.0, others.1, ap (λ (l : List Place). p ∷ l) others.2, ap (λ (l : List Place). p ∷ l) others.3)

pub exchanges : (id : ℕ) (ps : List Place) (stood held : Option Record) → lookup (eqb id) ps ≡ Some stood → Exchanges id ps stood (set_value (eqb id) ps held) held
exchanges id [] stood held there = absurd cc
exchanges id (p ∷ ps) stood held there = exchange_step (eqb id p.0) id p ps (set_value (eqb id) ps held) stood held refl there (exchanges id ps stood held)

-- Where there is no place, nothing is put.
absent_step : (b : Bool) (p : Place) (held : Option Record) (o : Option (Option Record)) (ps now : List Place) → cond b (Some p.1) o ≡ None → (o ≡ None → now ≡ ps)
    → cond b ((p.0, held) ∷ ps) (p ∷ now) ≡ p ∷ ps
absent_step true p held o ps now none rest = absurd cc
absent_step false p held o ps now none rest = ap (λ (l : List Place). p ∷ l) (rest none)

pub absent_put : (id : ℕ) (ps : List Place) (held : Option Record) → lookup (eqb id) ps ≡ None → set_value (eqb id) ps held ≡ ps
absent_put id [] held none = refl
absent_put id (p ∷ ps) held none = absent_step (eqb id p.0) p held (lookup (eqb id) ps) ps (set_value (eqb id) ps held) none (absent_put id ps held)

-- Where nothing stands at the place, or there is none, all is as before once nothing is put there.
nothing_step : (b : Bool) (p : Place) (o : Option (Option Record)) (ps now : List Place) → unwrap_or (cond b (Some p.1) o) None ≡ None → (unwrap_or o None ≡ None → now ≡ ps)
    → cond b ((p.0, None) ∷ ps) (p ∷ now) ≡ p ∷ ps
nothing_step true p o ps now none rest = ap (λ (held : Option Record). (p.0, held) ∷ ps) (sym none)
nothing_step false p o ps now none rest = ap (λ (l : List Place). p ∷ l) (rest none)

pub nothing_put : (id : ℕ) (ps : List Place) → held_at id ps ≡ None → set_value (eqb id) ps None ≡ ps
nothing_put id [] none = refl
nothing_put id (p ∷ ps) none = nothing_step (eqb id p.0) p (lookup (eqb id) ps) ps (set_value (eqb id) ps None) none (nothing_put id ps)

-- Another record at a place, or none.
module _ (before : List Place) (place : Place) (after : List Place) (held : Option Record) where
  abbrev changed : List Place
  changed = before ++ (place.0, held) ∷ after

  same_ids : keys_of (before ++ place ∷ after) ≡ keys_of changed
  same_ids = map-append (λ (p : Place). p.0) before (place ∷ after) ∙ sym (map-append (λ (p : Place). p.0) before ((place.0, held) ∷ after))

  stood : standing (before ++ place ∷ after) ≡ standing before ++ (option_to_list place.1 ++ standing after)
  stood = standing_append before (place ∷ after)

  stands : standing changed ≡ standing before ++ (option_to_list held ++ standing after)
  stands = standing_append before ((place.0, held) ∷ after)

  stood_length : length (standing (before ++ place ∷ after)) ≡ length (standing before) + (length (option_to_list place.1) + length (standing after))
  stood_length =
      ap length stood ∙ length-append (standing before) (option_to_list place.1 ++ standing after)
      ∙ ap (λ (n : ℕ). length (standing before) + n) (length-append (option_to_list place.1) (standing after))

  stands_length : length (standing changed) ≡ length (standing before) + (length (option_to_list held) + length (standing after))
  stands_length =
      ap length stands ∙ length-append (standing before) (option_to_list held ++ standing after)
      ∙ ap (λ (n : ℕ). length (standing before) + n) (length-append (option_to_list held) (standing after))

  pub changed_places : (next empty now : ℕ) → ArePlaces next empty (before ++ place ∷ after) → IsOwn place.0 held
      → length (option_to_list held) + now ≡ length (option_to_list place.1) + empty → ArePlaces next now changed
  changed_places next empty now is own counts = record {
    rising = subst (λ (ns : List ℕ). IsStrictlyIncreasing (ns ++ next ∷ [])) same_ids is.rising;
    own = own_both before ((place.0, held) ∷ after) (own_left before (place ∷ after) is.own) (own, (own_right before (place ∷ after) is.own).1);
    counted = omega (arith, is.counted, stood_length, stands_length, counts, length-append before (place ∷ after), length-append before ((place.0, held) ∷ after));
  }

  -- What was there is taken out, or stays where there was nothing.
  pub taken : (id : ℕ) → place.0 ≡ id → AreOwn (before ++ place ∷ after) → held ≡ None → Takes id (standing (before ++ place ∷ after)) place.1 (standing changed)
  taken id named own none = by_held place.1 refl (own_right before (place ∷ after) own).0
    where
      left : standing changed ≡ standing before ++ standing after
      left = stands ∙ ap (λ (o : Option Record). standing before ++ (option_to_list o ++ standing after)) none

      by_held : (o : Option Record) → place.1 ≡ o → IsOwn place.0 o → Takes id (standing (before ++ place ∷ after)) o (standing changed)
      by_held None is own = left ∙ sym (stood ∙ ap (λ (o : Option Record). standing before ++ (option_to_list o ++ standing after)) is)
      by_held (Some r) is own =
          (standing before, standing after, stood ∙ ap (λ (o : Option Record). standing before ++ (option_to_list o ++ standing after)) is, own ∙ named, left)

  pub put : (id : ℕ) (content : Content) (old : Record) → place.0 ≡ id → AreOwn (before ++ place ∷ after) → place.1 ≡ Some old → held ≡ Some (record { id = id; content = content })
      → Puts id content (standing (before ++ place ∷ after)) (standing changed)
  put id content old named own is now = (
    standing before,
    old,
    standing after,
    stood ∙ ap (λ (o : Option Record). standing before ++ (option_to_list o ++ standing after)) is,
    own_old,
    stands ∙ ap (λ (o : Option Record). standing before ++ (option_to_list o ++ standing after)) now
        ∙ ap (λ (n : ℕ). standing before ++ record { id = n; content = content } ∷ standing after) (sym own_old),
  )
    where
      own_old : old.id ≡ id
      own_old = subst (λ (o : Option Record). IsOwn place.0 o) is (own_right before (place ∷ after) own).0 ∙ named

-- ---- one more place

pub pushed_standing : (ps : List Place) (id : ℕ) (content : Content) → standing (ps ++ (id, Some (record { id = id; content = content })) ∷ [])
    ≡ standing ps ++ record { id = id; content = content } ∷ []
pushed_standing ps id content = standing_append ps ((id, Some (record { id = id; content = content })) ∷ [])

pub pushed_places : (next empty : ℕ) (ps : List Place) (content : Content) → ArePlaces next empty ps
    → ArePlaces (next + 1) empty (ps ++ (next, Some (record { id = next; content = content })) ∷ [])
pushed_places next empty ps content is =
    let new : Place = (next, Some (record { id = next; content = content })) in
    let named : keys_of (ps ++ (next, Some (record { id = next; content = content })) ∷ []) ≡ keys_of ps ++ next ∷ [] =
    map-append (λ (p : Place). p.0) ps ((next, Some (record { id = next; content = content })) ∷ []) in
    record {
      rising = climbed (keys_of (ps ++ (next, Some (record { id = next; content = content })) ∷ []) ++ (next + 1) ∷ [])
          (subst (λ (ns : List ℕ). Climbs (ns ++ (next + 1) ∷ [])) (sym named) (climbs_push (keys_of ps) next (next + 1) (climbs (keys_of ps ++ next ∷ []) is.rising) (omega arith)));
      own = own_both ps ((next, Some (record { id = next; content = content })) ∷ []) is.own (refl, tt);
      counted = omega (
        arith,
        is.counted,
        ap length (pushed_standing ps next content),
        length-append (standing ps) (record { id = next; content = content } ∷ []),
        length-append ps ((next, Some (record { id = next; content = content })) ∷ []),
      );
    }

pub pushed_few : (empty : ℕ) (ps : List Place) (new : Place) → AreFewEmpty empty ps → AreFewEmpty empty (ps ++ new ∷ [])
pushed_few empty ps new few = omega (arith, few, length-append ps (new ∷ []))

-- ---- the places that are not empty

abbrev pub is_here : Place → Bool
is_here place = is_some place.1

here_step : (p : Place) (held : Option Record) (kept : List Place) (rest : List Record) → p.1 ≡ held → standing kept ≡ rest
    → standing (cond (is_some held) (p ∷ kept) kept) ≡ option_to_list held ++ rest
here_step p None kept rest is e = e
here_step p (Some r) kept rest is e =
    ap (λ (o : Option Record). option_to_list o ++ standing kept) is ∙ ap (λ (l : List Record). r ∷ l) e

pub here_standing : (ps : List Place) → standing (filter is_here ps) ≡ standing ps
here_standing [] = refl
here_standing (p ∷ ps) = here_step p p.1 (filter is_here ps) (standing ps) refl (here_standing ps)

full_step : (p : Place) (held : Option Record) (kept : List Place) → p.1 ≡ held → length (standing kept) ≡ length kept
    → length (standing (cond (is_some held) (p ∷ kept) kept)) ≡ length (cond (is_some held) (p ∷ kept) kept)
full_step p None kept is e = e
full_step p (Some r) kept is e =
    let one : length (option_to_list p.1 ++ standing kept) ≡ length (r ∷ standing kept) = ap (λ (o : Option Record). length (option_to_list o ++ standing kept)) is in
    omega (arith, one, e)

here_full : (ps : List Place) → length (standing (filter is_here ps)) ≡ length (filter is_here ps)
here_full [] = refl
here_full (p ∷ ps) = full_step p p.1 (filter is_here ps) refl (here_full ps)

own_step : (b : Bool) (p : Place) (kept : List Place) → IsOwn p.0 p.1 → AreOwn kept → AreOwn (cond b (p ∷ kept) kept)
own_step true p kept own others = (own, others)
own_step false p kept own others = others

here_own : (ps : List Place) → AreOwn ps → AreOwn (filter is_here ps)
here_own [] own = tt
here_own (p ∷ ps) own = own_step (is_here p) p (filter is_here ps) own.0 (here_own ps own.1)

from_step : (b : Bool) (n id next : ℕ) (p : Place) (kept : List Place) → p.0 ≡ id → n ≤ id → AllFrom n (keys_of kept ++ next ∷ [])
    → AllFrom n (keys_of (cond b (p ∷ kept) kept) ++ next ∷ [])
from_step true n id next p kept is le h = (omega (arith, is, le), h)
from_step false n id next p kept is le h = h

here_from : (n next : ℕ) (ps : List Place) → AllFrom n (keys_of ps ++ next ∷ []) → AllFrom n (keys_of (filter is_here ps) ++ next ∷ [])
here_from n next [] h = h
here_from n next (p ∷ ps) h = from_step (is_here p) n p.0 next p (filter is_here ps) refl h.0 (here_from n next ps h.1)

climbs_step : (b : Bool) (next : ℕ) (p : Place) (kept : List Place) → AllFrom (suc p.0) (keys_of kept ++ next ∷ []) → Climbs (keys_of kept ++ next ∷ [])
    → Climbs (keys_of (cond b (p ∷ kept) kept) ++ next ∷ [])
climbs_step true next p kept over h = (over, h)
climbs_step false next p kept over h = h

here_climbs : (next : ℕ) (ps : List Place) → Climbs (keys_of ps ++ next ∷ []) → Climbs (keys_of (filter is_here ps) ++ next ∷ [])
here_climbs next [] h = h
here_climbs next (p ∷ ps) h = climbs_step (is_here p) next p (filter is_here ps) (here_from (suc p.0) next ps h.0) (here_climbs next ps h.1)

pub here_places : (next empty : ℕ) (ps : List Place) → ArePlaces next empty ps → ArePlaces next 0 (filter is_here ps)
here_places next empty ps is = record {
  rising = climbed (keys_of (filter is_here ps) ++ next ∷ []) (here_climbs next ps (climbs (keys_of ps ++ next ∷ []) is.rising));
  own = here_own ps is.own;
  counted = omega (arith, here_full ps);
}
