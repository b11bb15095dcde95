-- Records that are put in place, one by one.
use Rattle.std.proofs.Common.{◌≡◌, ◌⊎◌, inl, inr, ℕ, zero, suc, ◌+◌, ◌<◌, ◌≤◌, eqb, leb, cond, Bool, true, false, List, [], ◌∷◌, ◌++◌, length, get_or, set, take, Option, Some, None, refl, sym, ap, ◌∙◌, subst, arith, eq-eqb, eqb-true, ne_eqb}
use Rattle.std.specs.Prelude.{◌-◌, IsSome, is_some, nat_lt, slice_get}
use Rattle.std.specs.List.Sorted.{IsStrictlyIncreasing}
use Rattle.std.specs.Option.{option_or}
use Rattle.std.proofs.lemmas.Bool.{cases_lt, cond_both, cond-true, cond-false, le-leb, le-ltb, leb-true, lt-leb, true≢false}
use Rattle.std.proofs.lemmas.List.{map-append, take_more}
use Rattle.std.proofs.lemmas.List.Filters.{length-filter_more}
use Rattle.swima_model.specs.declared.record.Record.{Record}
use Rattle.swima_model.specs.InOrder.{ids}
use Rattle.swima_model.specs.Live.{record_of}
use Rattle.swima_model.specs.Places.{IsPlaceOf}
use Rattle.swima_model.proofs.Living.{same_records, strict_from, strict_rest}
use Rattle.swima_model.proofs.Places.{Climbs, climbed, climbs, from_right, none_above}
use Rattle.swima_model.proofs.Rises.{AllFrom}
use Rattle.validator_core.specs.Further.{AreBelow, FallAmong, IsFurther, OthersAreHeld, from}
use Rattle.validator_core.specs.Merged.{merged, merged_from}
use Rattle.validator_core.proofs.Merging.{merged_of, merged_rises}

-- ---- identifiers below a number

below_more : (m n : ℕ) (rs : List Record) → m ≤ n → AreBelow m rs → AreBelow n rs
below_more m n [] le h = tt
below_more m n (r ∷ rs) le h = (omega (arith, h.0, le), below_more m n rs le h.1)

module _ (n : ℕ) (r : Record) (lt : r.id < n) (later : List Record → List Record) (keeps : (hs : List Record) → AreBelow n hs → AreBelow n (later hs)) where
  below_from : (gs : List Record) → AreBelow n gs → AreBelow n (merged_from r later gs)
  below_from [] h = (lt, keeps [] tt)
  below_from (g ∷ gs) h =
      cond_both (nat_lt g.id r.id) _ _ (AreBelow n) (λ _. (h.0, below_from gs h.1)) (λ _.
      cond_both (eqb g.id r.id) _ _ (AreBelow n) (λ _. (h.0, keeps gs h.1)) (λ _. (lt, keeps (g ∷ gs) h)))

below_merged : (n : ℕ) (rs gs : List Record) → AreBelow n rs → AreBelow n gs → AreBelow n (merged rs gs)
below_merged n [] gs held h = h
below_merged n (r ∷ rs) gs held h = below_from n r held.0 (merged rs) (λ hs more. below_merged n rs hs held.1 more) gs h

-- All are below the number above the last.
below_end : (rs : List Record) (i : ℕ) (last : Record) → Climbs (ids rs) → suc i ≡ length rs → slice_get rs i ≡ Some last → AreBelow (last.id + 1) rs
below_end [] i last up len found = tt
below_end (r ∷ []) zero last up len found =
    let same : r ≡ last = cc in
    (subst (λ (x : Record). r.id < x.id + 1) same (omega arith), tt)
below_end (r ∷ []) (suc i) last up len found = absurd (omega (arith, len))
below_end (r ∷ s ∷ rs) zero last up len found = absurd (omega (arith, len))
below_end (r ∷ s ∷ rs) (suc i) last up len found =
    let later : AreBelow (last.id + 1) (s ∷ rs) = below_end (s ∷ rs) i last up.1 (omega (arith, len)) found in
    (omega (arith, up.0.0, later.0), later)

pub below_last : (rs : List Record) → IsStrictlyIncreasing (ids rs) → (last : Record) → slice_get rs (length rs - 1) ≡ Some last → AreBelow (last.id + 1) rs
below_last [] up last found = tt
below_last (r ∷ rs) up last found =
    let end : length (r ∷ rs) - 1 ≡ length rs = omega arith in
    below_end (r ∷ rs) (length rs) last (climbs (ids (r ∷ rs)) up) refl (subst (λ (i : ℕ). slice_get (r ∷ rs) i ≡ Some last) end found)

-- No number up to the last is.
below_at : (rs : List Record) (i : ℕ) (r : Record) → slice_get rs i ≡ Some r → (bound : ℕ) → AreBelow bound rs → r.id < bound
below_at [] i r found bound h = absurd (true≢false (sym (ap is_some found)))
below_at (s ∷ rs) zero r found bound h =
    let same : s ≡ r = cc in
    subst (λ (x : Record). x.id < bound) same h.0
below_at (s ∷ rs) (suc i) r found bound h = below_at rs i r found bound h.1

pub above_last : (rs : List Record) (last : Record) → slice_get rs (length rs - 1) ≡ Some last → (bound : ℕ) → AreBelow bound rs → last.id + 1 ≤ bound
above_last rs last found bound h = omega (arith, below_at rs (length rs - 1) last found bound h)

-- ---- one record put in

pub merged_none : (rs : List Record) → merged rs [] ≡ rs
merged_none [] = refl
merged_none (r ∷ rs) = ap (λ (l : List Record). r ∷ l) (merged_none rs)

one_above : (g r : Record) (rs : List Record) → r.id < g.id → merged (r ∷ rs) (g ∷ []) ≡ r ∷ merged rs (g ∷ [])
one_above g r rs lt =
    cond-false (nat_lt g.id r.id) _ _ (le-ltb g.id r.id (omega (arith, lt))) ∙ cond-false (eqb g.id r.id) _ _ (ne_eqb g.id r.id (λ same. omega (arith, lt, same)))

-- After all others.
pub put_last : (g : Record) (rs : List Record) → AreBelow g.id rs → rs ++ g ∷ [] ≡ merged rs (g ∷ [])
put_last g [] below = refl
put_last g (r ∷ rs) below = ap (λ (l : List Record). r ∷ l) (put_last g rs below.1) ∙ sym (one_above g r rs below.0)

-- In place of the one that is there.
there_from : (g held : Record) (before after : List Record) → held.id ≡ g.id → Climbs (ids (before ++ held ∷ after)) → before ++ g ∷ after ≡ merged (before ++ held ∷ after) (g ∷ [])
there_from g held [] after same up =
    ap (λ (l : List Record). g ∷ l) (sym (merged_none after)) ∙ sym (cond-true (eqb g.id held.id) _ _ (eq-eqb g.id held.id (sym same)))
    ∙ sym (cond-false (nat_lt g.id held.id) _ _ (le-ltb g.id held.id (omega (arith, same))))
there_from g held (r ∷ before) after same up =
    let above : AllFrom (suc r.id) (ids before ++ held.id ∷ ids after) =
    subst (AllFrom (suc r.id)) (map-append (λ (x : Record). x.id) before (held ∷ after)) up.0 in
    ap (λ (l : List Record). r ∷ l) (there_from g held before after same up.1)
    ∙ sym (one_above g r (before ++ held ∷ after) (omega (arith, same, (from_right (suc r.id) (ids before) (held.id ∷ ids after) above).0)))

pub put_there : (g held : Record) (before after : List Record) → held.id ≡ g.id → IsStrictlyIncreasing (ids (before ++ held ∷ after))
    → before ++ g ∷ after ≡ merged (before ++ held ∷ after) (g ∷ [])
put_there g held before after same up = there_from g held before after same (climbs (ids (before ++ held ∷ after)) up)

-- At the place of its identifier, or at the end where that has none.
seam : (g held : Record) (before after : List Record) → set (before ++ held ∷ after) (length before) g ≡ before ++ g ∷ after
seam g held [] after = refl
seam g held (r ∷ before) after = ap (λ (l : List Record). r ∷ l) (seam g held before after)

pub put_at : (rs : List Record) (place : ℕ) (g : Record) → IsStrictlyIncreasing (ids rs) → IsPlaceOf rs g.id (Some place) → set rs place g ≡ merged rs (g ∷ [])
put_at rs place g up (before, held, after, is, at, same) =
    ap (λ (l : List Record). set l place g) is ∙ ap (λ (k : ℕ). set (before ++ held ∷ after) k g) at ∙ seam g held before after
    ∙ put_there g held before after same (subst (λ (l : List Record). IsStrictlyIncreasing (ids l)) is up)
    ∙ ap (λ (l : List Record). merged l (g ∷ [])) (sym is)

pub put_new : (rs after : List Record) (g : Record) {P : Type 0} → IsPlaceOf rs g.id None → IsSome (record_of g.id rs) ⊎ (AreBelow g.id rs × P) → after ≡ rs ++ g ∷ []
    → after ≡ merged rs (g ∷ [])
put_new rs after g none fits put = elim fits [
  | inl some ↦ absurd (true≢false (sym some ∙ ap is_some none))
  | inr last ↦ put ∙ put_last g rs last.0
]

-- Those of a list one by one.
pub one_rises : (g : Record) → IsStrictlyIncreasing (ids (g ∷ []))
one_rises g = climbed (g.id ∷ []) (tt, tt)

twice_step : (here : Bool) (g : Record) (later held : Option Record) → (here ≡ true → later ≡ None)
    → option_or later (option_or (cond here (Some g) None) held) ≡ option_or (cond here (Some g) later) held
twice_step true g later held none = ap (λ (o : Option Record). option_or o (Some g)) (none refl)
twice_step false g later held none = refl

none_later : (q : ℕ) (g : Record) (rest : List Record) → IsStrictlyIncreasing (ids (g ∷ rest)) → eqb g.id q ≡ true → record_of q rest ≡ None
none_later q g rest up here =
    subst (λ (k : ℕ). record_of k rest ≡ None) (eqb-true g.id q here) (none_above g.id (suc g.id) rest (omega arith) (strict_from g.id (ids rest) up))

pub merged_twice : (base : List Record) (g : Record) (rest : List Record) → IsStrictlyIncreasing (ids base) → IsStrictlyIncreasing (ids (g ∷ rest))
    → merged (merged base (g ∷ [])) rest ≡ merged base (g ∷ rest)
merged_twice base g rest rising up =
    let now : List Record = merged base (g ∷ []) in
    let one : IsStrictlyIncreasing (ids now) = merged_rises base (g ∷ []) rising (one_rises g) in
    let later : IsStrictlyIncreasing (ids rest) = strict_rest g.id (ids rest) up in
    same_records (merged now rest) (merged base (g ∷ rest)) (merged_rises now rest one later) (merged_rises base (g ∷ rest) rising up)
    (λ q.
    merged_of now rest one later q ∙ ap (option_or (record_of q rest)) (merged_of base (g ∷ []) rising (one_rises g) q)
    ∙ twice_step (eqb g.id q) g (record_of q rest) (record_of q base) (none_later q g rest up)
    ∙ sym (merged_of base (g ∷ rest) rising up q))

-- ---- those that come after all that are held

from_first : (n : ℕ) (g : Record) (rest : List Record) → n ≤ g.id → from n (g ∷ rest) ≡ g ∷ from n rest
from_first n g rest le = cond-true (leb n g.id) _ _ (le-leb n g.id le)

from_other : (n : ℕ) (g : Record) (rest : List Record) → g.id < n → from n (g ∷ rest) ≡ from n rest
from_other n g rest lt = cond-false (leb n g.id) _ _ (lt-leb n g.id lt)

fewer_step : (a b : Bool) (r : Record) (xs ys : List Record) → (a ≡ true → b ≡ true) → length xs ≤ length ys → length (cond a (r ∷ xs) xs) ≤ length (cond b (r ∷ ys) ys)
fewer_step true true r xs ys more le = omega (arith, le)
fewer_step true false r xs ys more le = absurd (true≢false (sym (more refl)))
fewer_step false true r xs ys more le = omega (arith, le)
fewer_step false false r xs ys more le = le

fewer : (m n : ℕ) (rs : List Record) → m ≤ n → length (from n rs) ≤ length (from m rs)
fewer m n [] le = omega arith
fewer m n (r ∷ rs) le =
    fewer_step (leb n r.id) (leb m r.id) r (from n rs) (from m rs) (λ is. le-leb m r.id (omega (arith, le, leb-true n r.id is))) (fewer m n rs le)

some_or : (x o : Option Record) → IsSome o → IsSome (option_or x o)
some_or None o is = is
some_or (Some r) o is = refl

others_same : (held after : List Record) (n : ℕ) (rs : List Record) → ((q : ℕ) → IsSome (record_of q held) → IsSome (record_of q after))
    → OthersAreHeld held n rs → OthersAreHeld after n rs
others_same held after n [] more h = tt
others_same held after n (r ∷ rs) more h = (elim h.0 [ inl some ↦ inl (more r.id some) | inr le ↦ inr le ], others_same held after n rs more h.1)

others_above : (after : List Record) (n : ℕ) (rs : List Record) → AllFrom n (ids rs) → OthersAreHeld after n rs
others_above after n [] up = tt
others_above after n (r ∷ rs) up = (inr up.0, others_above after n rs up.1)

others_push : (held : List Record) (n : ℕ) (rs : List Record) (r : Record) → OthersAreHeld held n rs → IsSome (record_of r.id held) ⊎ (n ≤ r.id)
    → OthersAreHeld held n (rs ++ r ∷ [])
others_push held n [] r h next = (next, tt)
others_push held n (s ∷ rs) r h next = (h.0, others_push held n rs r h.1 next)

-- One more of the given records is gone over.
some_cond : (here : Bool) (r : Record) (o : Option Record) → IsSome o → IsSome (cond here (Some r) o)
some_cond true r o is = refl
some_cond false r o is = is

some_there : (held : Record) (before after : List Record) → IsSome (record_of held.id (before ++ held ∷ after))
some_there held [] after = ap is_some (cond-true (eqb held.id held.id) (Some held) (record_of held.id after) (eq-eqb held.id held.id refl))
some_there held (r ∷ before) after = some_cond (eqb r.id held.id) r (record_of held.id (before ++ held ∷ after)) (some_there held before after)

pub place_some : (rs : List Record) (id : ℕ) (found : Option ℕ) → IsPlaceOf rs id found → is_some found ≡ true → IsSome (record_of id rs)
place_some rs id None is some = absurd (true≢false (sym some))
place_some rs id (Some place) (before, held, after, is, at, same) some =
    subst (λ (l : List Record). IsSome (record_of id l)) (sym is) (subst (λ (k : ℕ). IsSome (record_of k (before ++ held ∷ after))) same (some_there held before after))

pub place_none : (rs : List Record) (id : ℕ) (found : Option ℕ) → IsPlaceOf rs id found → is_some found ≡ false → record_of id rs ≡ None
place_none rs id None is none = is
place_none rs id (Some place) is none = absurd (true≢false none)

-- A given record that is not held and is below one that is.
pub among_at : (held given : List Record) (i : ℕ) (r : Record) → i < length given → r ≡ get_or given i r → record_of r.id held ≡ None → ¬ AreBelow r.id held → FallAmong held given
among_at held [] i r within is new before = absurd (omega (arith, within))
among_at held (g ∷ given) zero r within is new before =
    inl (subst (λ (x : Record). (record_of x.id held ≡ None) × ¬ AreBelow x.id held) is (new, before))
among_at held (g ∷ given) (suc i) r within is new before = inr (among_at held given i r (omega (arith, within)) is new before)

module _ (held given : List Record) (n i : ℕ) (r : Record) (within : i < length given) (is : r ≡ get_or given i r) where
  pub others_on : OthersAreHeld held n (take i given) → IsSome (record_of r.id held) ⊎ (n ≤ r.id) → OthersAreHeld held n (take (i + 1) given)
  others_on h next =
      subst (OthersAreHeld held n) (sym (take_more given i r within ∙ ap (λ (x : Record). take i given ++ x ∷ []) (sym is)))
      (others_push held n (take i given) r h next)

  pub counted_on : (first : Bool) → leb n r.id ≡ first → length (from n (take (i + 1) given)) ≡ length (from n (take i given)) + cond first 1 0
  counted_on first e =
      length-filter_more (λ (x : Record). leb n x.id) given i r within
      ∙ ap (λ (x : Record). length (from n (take i given)) + cond (leb n x.id) 1 0) (sym is)
      ∙ ap (λ (b : Bool). length (from n (take i given)) + cond b 1 0) e

-- The next of the given records.
module _ (held : List Record) (g : Record) (rest : List Record) (count len capacity : ℕ) (h : IsFurther held (g ∷ rest) count) (room : len + count ≤ capacity) where
  pub put_fits : IsSome (record_of g.id held) ⊎ (AreBelow g.id held × (len < capacity))
  put_fits = elim h.others.0 [
    | inl some ↦ inl some
    | inr le ↦ inr (below_more h.next g.id held le h.below, omega (arith, room, h.counted, ap length (from_first h.next g rest le)))
  ]

  -- What holds after it.
  module _ (after : List Record) (now capacity_now : ℕ) (rising : IsStrictlyIncreasing (ids held)) (up : IsStrictlyIncreasing (ids (g ∷ rest))) (put : after ≡ merged held (g ∷ []))
      (same : IsSome (record_of g.id held) → now ≡ len) (more : now ≤ len + 1) (wider : capacity ≤ capacity_now) where
    still : (q : ℕ) → IsSome (record_of q held) → IsSome (record_of q after)
    still q some =
        subst IsSome (sym (ap (record_of q) put ∙ merged_of held (g ∷ []) rising (one_rises g) q))
        (some_or (record_of q (g ∷ [])) (record_of q held) some)

    below : (n : ℕ) → h.next ≤ n → g.id < n → AreBelow n after
    below n le lt = subst (AreBelow n) (sym put) (below_merged n held (g ∷ []) (below_more h.next n held le h.below) (lt, tt))

    pub goes_on : (left : ℕ) × IsFurther after rest left × (now + left ≤ capacity_now)
    goes_on = elim (cases_lt g.id h.next) [
      | inl lt ↦
          let there : IsSome (record_of g.id held) = elim h.others.0 [ inl some ↦ some | inr le ↦ absurd (omega (arith, lt, le)) ] in (
            length (from h.next rest),
            record { next = h.next; below = below h.next (omega arith) lt; others = others_same held after h.next rest still h.others.1; counted = refl },
            omega (arith, room, wider, same there, h.counted, ap length (from_other h.next g rest lt)),
          )
      | inr le ↦ (
        length (from (suc g.id) rest),
        record {
          next = suc g.id;
          below = below (suc g.id) (omega (arith, le)) (omega arith);
          others = others_above after (suc g.id) rest (strict_from g.id (ids rest) up);
          counted = refl;
        },
        omega (arith, room, wider, more, h.counted, ap length (from_first h.next g rest le), fewer h.next (suc g.id) rest (omega (arith, le))),
      )
    ]
