-- Events that are numbered one by one, and those of them that are reported.
use Rattle.std.proofs.Common.{◌≡◌, inl, inr, ℕ, zero, suc, ◌+◌, ◌-◌, ◌<◌, ◌≤◌, eqb, leb, ltb, cond, ◌&&◌, Bool, true, false, List, [], ◌∷◌, ◌++◌, take, Option, Some, None, refl, sym, ap, ◌∙◌, arith, eqb-true, leb-true}
use Rattle.std.specs.Prelude.{filter, nat_lt, nat_le}
use Rattle.std.proofs.lemmas.Bool.{cases_lt, lt-ltb, le-ltb, le-leb, lt-leb}
use Rattle.std.proofs.lemmas.List.Elements.{filter_agree}
use Rattle.swima_model.specs.declared.event.Event.{Event}
use Rattle.swima_model.specs.declared.report.Kind.{Kind}
use Rattle.swima_model.specs.Kinds.{events_of_kind}
use Rattle.swima_model.specs.History.{AreNumberedFrom, from_to}
use Rattle.swima_model.proofs.OfKind.{event_of_kind}
use Rattle.validator_core.specs.Following.{events_above, eids, numbers_from, first_difference, gap}

-- ---- lists of numbers

difference_step : (same : Bool) (told : ℕ) (later : Option ℕ) → cond same later (Some told) ≡ None → (same ≡ true) × (later ≡ None)
difference_step true told later e = (refl, e)
difference_step false told later e = absurd cc

-- Lists without a difference are one.
no_difference : (tolds wanteds : List ℕ) → first_difference tolds wanteds ≡ None → tolds ≡ wanteds
no_difference [] [] e = refl
no_difference [] (w ∷ ws) e = absurd cc
no_difference (t ∷ ts) [] e = absurd cc
no_difference (t ∷ ts) (w ∷ ws) e =
    let parts = difference_step (eqb t w) t (first_difference ts ws) e in
    let head : t ≡ w = eqb-true t w parts.0 in
    let rest : ts ≡ ws = no_difference ts ws parts.1 in
    cc

-- ---- filters

filter_both_step : {X : Type 0} (p q : Bool) (x : X) (ps qs both : List X) → qs ≡ both → cond p (cond q (x ∷ qs) qs) qs ≡ cond (p && q) (x ∷ both) both
filter_both_step true true x ps qs both e = ap (λ (l : List _). x ∷ l) e
filter_both_step true false x ps qs both e = e
filter_both_step false true x ps qs both e = e
filter_both_step false false x ps qs both e = e

filter_of_cond : {X : Type 0} (q : X → Bool) (p : Bool) (x : X) (xs : List X) → filter q (cond p (x ∷ xs) xs) ≡ cond p (filter q (x ∷ xs)) (filter q xs)
filter_of_cond q true x xs = refl
filter_of_cond q false x xs = refl

-- A filter of a filter.
filter_both : {X : Type 0} (p q : X → Bool) (xs : List X) → filter q (filter p xs) ≡ filter (λ (x : X). p x && q x) xs
filter_both p q [] = refl
filter_both p q (x ∷ xs) =
    filter_of_cond q (p x) x (filter p xs) ∙ filter_both_step (p x) (q x) x (filter p xs) (filter q (filter p xs)) (filter (λ x. p x && q x) xs) (filter_both p q xs)

head_of_cond : {X : Type 0} (p : X → Bool) (test : Bool) (y x : X) (ys rest : List X) → p y ≡ test → (ys ≡ x ∷ rest → p x ≡ true) → cond test (y ∷ ys) ys ≡ x ∷ rest → p x ≡ true
head_of_cond p true y x ys rest is later e =
    let same : y ≡ x = cc in
    ap p (sym same) ∙ is
head_of_cond p false y x ys rest is later e = later e

-- The first that a filter keeps passes.
first_passes : {X : Type 0} (p : X → Bool) (xs : List X) (x : X) (rest : List X) → filter p xs ≡ x ∷ rest → p x ≡ true
first_passes p [] x rest e = absurd cc
first_passes p (y ∷ ys) x rest e = head_of_cond p (p y) y x (filter p ys) rest refl (first_passes p ys x rest) e

-- ---- events of a kind

eids_of_kind : (kind : Kind) (events : List Event) → eids (events_of_kind kind events) ≡ eids events
eids_of_kind kind [] = refl
eids_of_kind kind (e ∷ later) = ap (λ (ns : List ℕ). e.eid ∷ ns) (eids_of_kind kind later)

map_of_cond : (kind : Kind) (test : Bool) (e : Event) (kept told : List Event) → kept ≡ events_of_kind kind told → cond test (event_of_kind kind e ∷ kept) kept ≡ events_of_kind kind (cond test (e ∷ told) told)
map_of_cond kind true e kept told is = ap (λ (es : List Event). event_of_kind kind e ∷ es) is
map_of_cond kind false e kept told is = is

above_of_kind : (kind : Kind) (held : ℕ) (events : List Event) → events_above held (events_of_kind kind events) ≡ events_of_kind kind (events_above held events)
above_of_kind kind held [] = refl
above_of_kind kind held (e ∷ later) =
    map_of_cond kind (ltb held e.eid) e (events_above held (events_of_kind kind later)) (events_above held later) (above_of_kind kind held later)

-- ---- numbered events

-- The events of an epoch above one event identifier and up to another.
abbrev pub between : ℕ → ℕ → List Event → List Event
between held consulted events = filter (λ (e : Event). nat_lt held e.eid && nat_le e.eid consulted) events

take_none : (k : ℕ) → take {A = Event} k [] ≡ []
take_none zero = refl
take_none (suc k) = refl

-- Numbered events above one that they are past are a prefix.
past : (held consulted n : ℕ) (events : List Event) → AreNumberedFrom n events → held < n → between held consulted events ≡ take (consulted + 1 - n) events
past held consulted n [] are lt = sym (take_none (consulted + 1 - n))
past held consulted n (e ∷ later) are lt =
    let above : ltb held e.eid ≡ true = lt-ltb held e.eid (omega (arith, are.0)) in
    elim (cases_lt consulted n) [
      | inl over ↦
          let not_up : leb e.eid consulted ≡ false = lt-leb e.eid consulted (omega (arith, are.0)) in
          let none : consulted + 1 - n ≡ 0 = omega arith in
          let none_later : consulted + 1 - (n + 1) ≡ 0 = omega arith in
          rw (above, not_up, none) (rw none_later at (past held consulted (n + 1) later are.1 (omega arith)))
      | inr le ↦
          let up : leb e.eid consulted ≡ true = le-leb e.eid consulted (omega (arith, are.0)) in
          let more : consulted + 1 - n ≡ suc (consulted + 1 - (n + 1)) = omega arith in
          rw (above, up, more) (ap (λ (es : List Event). e ∷ es) (past held consulted (n + 1) later are.1 (omega arith)))
    ]

-- What is numbered up to one, and the events above it up to another, are what is numbered up to
-- that.
pub front_between : (held consulted n : ℕ) (events : List Event) → AreNumberedFrom n events → n ≤ held + 1 → held ≤ consulted
    → take (held + 1 - n) events ++ between held consulted events ≡ take (consulted + 1 - n) events
front_between held consulted n [] are first le =
    ap (λ (es : List Event). es ++ []) (take_none (held + 1 - n)) ∙ sym (take_none (consulted + 1 - n))
front_between held consulted n (e ∷ later) are first le = elim (cases_lt held n) [
  | inl behind ↦
      let none : held + 1 - n ≡ 0 = omega arith in
      rw none (past held consulted n (e ∷ later) are behind)
  | inr within ↦
      let below : ltb held e.eid ≡ false = le-ltb held e.eid (omega (arith, are.0)) in
      let more : held + 1 - n ≡ suc (held + 1 - (n + 1)) = omega arith in
      let on : consulted + 1 - n ≡ suc (consulted + 1 - (n + 1)) = omega arith in
      rw (below, more, on) (ap (λ (es : List Event). e ∷ es) (front_between held consulted (n + 1) later are.1 (omega arith) le))
]

-- From the first on, in the words of a history.
pub followed : (held consulted : ℕ) (events : List Event) → AreNumberedFrom 1 events → held ≤ consulted → take held events ++ between held consulted events ≡ take consulted events
followed held consulted events are le =
    let h : held + 1 - 1 ≡ held = omega arith in
    let c : consulted + 1 - 1 ≡ consulted = omega arith in
    ap (λ (k : ℕ). take k events ++ between held consulted events) (sym h) ∙ front_between held consulted 1 events are (omega arith) le ∙ ap (λ (k : ℕ). take k events) c

-- ---- what a report without a gap reports

agree_step : (first held consulted eid : ℕ) → first ≤ held + 1 → ((leb first eid && leb eid consulted) && ltb held eid) ≡ (ltb held eid && leb eid consulted)
agree_step first held consulted eid le = elim (cases_lt held eid) [
  | inl above ↦
      let a : ltb held eid ≡ true = lt-ltb held eid above in
      let f : leb first eid ≡ true = le-leb first eid (omega (arith, le)) in
      rw (a, f) (and_true (leb eid consulted))
  | inr below ↦
      let b : ltb held eid ≡ false = le-ltb held eid below in
      rw b (and_false (leb first eid && leb eid consulted))
]
  where
    and_true : (b : Bool) → (b && true) ≡ b
    and_true true = refl
    and_true false = refl

    and_false : (b : Bool) → (b && false) ≡ false
    and_false true = refl
    and_false false = refl

-- Those that are reported above the one that is held, where the first that is reported is not after
-- the next.
told_above : (first held consulted : ℕ) (events : List Event) → first ≤ held + 1 → events_above held (from_to first consulted events) ≡ between held consulted events
told_above first held consulted events le =
    filter_both (λ (e : Event). nat_le first e.eid && nat_le e.eid consulted) (λ (e : Event). nat_lt held e.eid) events
    ∙ filter_agree (λ (e : Event). (nat_le first e.eid && nat_le e.eid consulted) && nat_lt held e.eid) (λ (e : Event). nat_lt held e.eid && nat_le e.eid consulted)
    (λ e. agree_step first held consulted e.eid le) events

both_true : (a b : Bool) → (a && b) ≡ true → a ≡ true
both_true true b e = refl
both_true false b e = absurd cc

-- The first of them reports that.
first_of_told : (first held consulted : ℕ) (events told : List Event) → events_above held (from_to first consulted events) ≡ told → eids told ≡ numbers_from (held + 1) (consulted - held) → held < consulted → first ≤ held + 1
first_of_told first held consulted events [] is numbers lt =
    let some : consulted - held ≡ suc (consulted - held - 1) = omega arith in
    absurd (none (numbers ∙ ap (numbers_from (held + 1)) some))
  where
    none : [] ≡ numbers_from (held + 1) (suc (consulted - held - 1)) → ⊥
    none e = absurd cc
first_of_told first held consulted events (e ∷ rest) is numbers lt =
    let some : consulted - held ≡ suc (consulted - held - 1) = omega arith in
    let heads : e.eid ∷ eids rest ≡ (held + 1) ∷ numbers_from (held + 1 + 1) (consulted - held - 1) = numbers ∙ ap (numbers_from (held + 1)) some in
    let head : e.eid ≡ held + 1 = cc in
    let passed = first_passes (λ (x : Event). (nat_le first x.eid && nat_le x.eid consulted) && nat_lt held x.eid) events e rest
    (sym (filter_both (λ (x : Event). nat_le first x.eid && nat_le x.eid consulted) (λ (x : Event). nat_lt held x.eid) events) ∙ is) in
    omega (arith, head, leb-true first e.eid (both_true (leb first e.eid) (leb e.eid consulted) (both_true (leb first e.eid && leb e.eid consulted) (ltb held e.eid) passed)))

-- A report that reports all from its first event to the last that was consulted, without a gap
-- after the one that is held, reports all after that.
pub tells_above : (kind : Kind) (held consulted : ℕ) (epoch first : List Event) (told : ℕ) → first ≡ events_of_kind kind (from_to told consulted epoch) → held < consulted → gap held consulted first ≡ None
    → events_above held first ≡ events_of_kind kind (between held consulted epoch)
tells_above kind held consulted epoch first told is lt none =
    let above : events_above held first ≡ events_of_kind kind (events_above held (from_to told consulted epoch)) =
    ap (events_above held) is ∙ above_of_kind kind held (from_to told consulted epoch) in
    let numbers : eids (events_above held (from_to told consulted epoch)) ≡ numbers_from (held + 1) (consulted - held) =
    sym (eids_of_kind kind (events_above held (from_to told consulted epoch))) ∙ ap eids (sym above)
    ∙ no_difference (eids (events_above held first)) (numbers_from (held + 1) (consulted - held)) none in
    above ∙ ap (events_of_kind kind) (told_above told held consulted epoch (first_of_told told held consulted epoch (events_above held (from_to told consulted epoch)) refl numbers lt))

-- Nothing that is reported leaves a gap.
pub nothing_told : (held consulted : ℕ) → held < consulted → gap held consulted [] ≡ None → ⊥
nothing_told held consulted lt none =
    let some : consulted - held ≡ suc (consulted - held - 1) = omega arith in
    some_is (ap (λ (k : ℕ). first_difference [] (numbers_from (held + 1) k)) (sym some) ∙ none)
  where
    some_is : first_difference [] (numbers_from (held + 1) (suc (consulted - held - 1))) ≡ None → ⊥
    some_is e = absurd cc
