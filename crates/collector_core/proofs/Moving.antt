-- Whether one of the later events is asked for, by their software identifiers in order.
use Rattle.std.proofs.Common.{◌≡◌, inl, inr, ℕ, suc, ◌+◌, ◌-◌, ◌<◌, ◌≤◌, ◌&&◌, ◌||◌, leb, Bool, true, false, List, [], ◌∷◌, ◌++◌, length, take, drop, refl, sym, ap, ◌∙◌, arith, take_all, length-drop, length-take}
use Rattle.std.specs.Prelude.{Option, max, option_to_list, slice_get}
use Rattle.std.specs.List.{list_any}
use Rattle.std.specs.List.Sorted.{IsPermutation}
use Rattle.std.specs.Str.{bytes_eq}
use Rattle.std.specs.Cmp.Lexicographic.{nat_list_eq_equiv}
use Rattle.std.proofs.lemmas.Bool.{cases_lt, cond-true, cond-false, le-leb, lt-leb, lt-ltb, le-ltb}
use Rattle.std.proofs.lemmas.List.{length-map, map-append}
use Rattle.std.proofs.lemmas.List.Sorted.{IsPermutation-map, list_any-IsPermutation}
use denote.Ref.{Bor}
use Rattle.swima_model.specs.declared.event.Event.{Event}
use Rattle.event_log.specs.Log.{IsLog, Log, event_at, events_from}
use Rattle.event_log.proofs.Pushing.{from_is_drop}
use Rattle.collector_core.specs.Answering.{is_later, is_wanted}
use Rattle.collector_core.specs.Borrowed.{values}
use Rattle.collector_core.specs.Later.{idents, later_idents}
use Rattle.collector_core.proofs.Choosing.{get_behind, one_more}

-- ---- by software identifiers

later_is : (after : ℕ) (targets : List (List ℕ)) (es : List Event) → list_any (is_later after targets) es ≡ list_any (is_wanted targets) (later_idents after es)
later_is after targets [] = refl
later_is after targets (e ∷ es) = elim (cases_lt after e.eid) [
  | inl above ↦
      ap (λ (b : Bool). (b && is_wanted targets e.subject.content.ident) || list_any (is_later after targets) es) (lt-ltb after e.eid above)
      ∙ ap (λ (b : Bool). is_wanted targets e.subject.content.ident || b) (later_is after targets es)
      ∙ sym (ap (λ (l : List Event). list_any (is_wanted targets) (idents l)) (cond-true (leb (after + 1) e.eid) (e ∷ events_from (after + 1) es) (events_from (after + 1) es) (le-leb (after + 1) e.eid (omega (arith, above)))))
  | inr within ↦
      ap (λ (b : Bool). (b && is_wanted targets e.subject.content.ident) || list_any (is_later after targets) es) (le-ltb after e.eid within)
      ∙ later_is after targets es
      ∙ sym (ap (λ (l : List Event). list_any (is_wanted targets) (idents l)) (cond-false (leb (after + 1) e.eid) (e ∷ events_from (after + 1) es) (events_from (after + 1) es) (lt-leb (after + 1) e.eid (omega (arith, within)))))
]

any_at_all : (is : List (List ℕ)) → (length is ≡ 0 → list_any (is_wanted []) is ≡ false) × ((length is ≡ 0 → ⊥) → list_any (is_wanted []) is ≡ true)
any_at_all [] = (λ none. refl, λ some. absurd (some refl))
any_at_all (x ∷ xs) = (λ none. absurd (omega (arith, none)), λ some. refl)

-- ---- in either order

mixed : (a b c d : Bool) → ((a || b) || (c || d)) ≡ ((a || c) || (b || d))
mixed true b c d = refl
mixed false true true d = refl
mixed false true false d = refl
mixed false false c d = refl

either_any : {X : Type 0} (p q : X → Bool) (xs : List X) → (list_any p xs || list_any q xs) ≡ list_any (λ x. p x || q x) xs
either_any p q [] = refl
either_any p q (x ∷ xs) = mixed (p x) (list_any p xs) (q x) (list_any q xs) ∙ ap (λ (b : Bool). (p x || q x) || b) (either_any p q xs)

none_any : {X : Type 0} (xs : List X) → list_any (λ (x : X). false) xs ≡ false
none_any [] = refl
none_any (x ∷ xs) = none_any xs

same_any : {X : Type 0} (p q : X → Bool) → ((x : X) → p x ≡ q x) → (xs : List X) → list_any p xs ≡ list_any q xs
same_any p q same [] = refl
same_any p q same (x ∷ xs) = ap (λ (b : Bool). b || list_any p xs) (same x) ∙ ap (λ (b : Bool). q x || b) (same_any p q same xs)

crossed : (targets is : List (List ℕ)) → list_any (λ ident. list_any (λ target. bytes_eq target ident) targets) is ≡ list_any (λ target. list_any (λ ident. bytes_eq ident target) is) targets
crossed targets [] = sym (none_any targets)
crossed targets (x ∷ xs) =
    ap (λ (b : Bool). list_any (λ target. bytes_eq target x) targets || b) (crossed targets xs)
    ∙ ap (λ (b : Bool). b || list_any (λ target. list_any (λ ident. bytes_eq ident target) xs) targets) (same_any (λ target. bytes_eq target x) (λ target. bytes_eq x target) (λ target. nat_list_eq_equiv.symm target x) targets)
    ∙ either_any (λ target. bytes_eq x target) (λ target. list_any (λ ident. bytes_eq ident target) xs) targets

some_wanted : (targets is : List (List ℕ)) → (targets ≡ [] → ⊥) → list_any (is_wanted targets) is ≡ list_any (λ target. list_any (λ ident. bytes_eq ident target) is) targets
some_wanted [] is some = absurd (some refl)
some_wanted (target ∷ others) is some = crossed (target ∷ others) is

-- With targets, one of them is among the software identifiers.
pub one_later : (after : ℕ) (targets : List (List ℕ)) (es : List Event) (later sorted : List (Bor (List ℕ))) → (targets ≡ [] → ⊥) → values later ≡ later_idents after es → IsPermutation later sorted
    → list_any (λ target. list_any (λ ident. bytes_eq ident target) (values sorted)) targets ≡ list_any (is_later after targets) es
one_later after targets es later sorted some are moved =
    sym (some_wanted targets (values sorted) some)
    ∙ sym (list_any-IsPermutation (is_wanted targets) (values later) (values sorted) (IsPermutation-map (λ b. b.now) later sorted moved))
    ∙ ap (list_any (is_wanted targets)) are
    ∙ sym (later_is after targets es)

-- ---- one event identifier after another

module _ (log : Log) (is : IsLog log) (after first : ℕ) (begins : first ≡ max log.first (after + 1)) where
  same_from : events_from (after + 1) log.events ≡ drop (first - log.first) log.events
  same_from =
      let k : after + 1 - log.first ≡ first - log.first = omega (arith, begins) in
      from_is_drop (after + 1) log.first log.events is.numbered ∙ ap (λ (n : ℕ). drop n log.events) k

  -- Without targets each is asked for.
  pub any_kept : leb first log.last ≡ list_any (is_later after []) log.events
  any_kept =
      let count : length (later_idents after log.events) ≡ length log.events - (first - log.first) =
      length-map (events_from (after + 1) log.events) (λ (e : Event). e.subject.content.ident) ∙ ap length same_from ∙ length-drop (first - log.first) log.events in
      elim (cases_lt log.last first) [
        | inl none ↦ lt-leb first log.last none ∙ sym (later_is after [] log.events ∙ (any_at_all (later_idents after log.events)).0 (omega (arith, count, none, is.count, begins)))
        | inr some ↦ le-leb first log.last some ∙ sym (later_is after [] log.events ∙ (any_at_all (later_idents after log.events)).1 (λ zero. omega (arith, zero, count, some, is.count, begins)))
      ]

  there : (eid : ℕ) → first ≤ eid → event_at log eid ≡ slice_get (events_from (after + 1) log.events) (eid - first)
  there eid above =
      let place : eid - log.first ≡ first - log.first + (eid - first) = omega (arith, begins, above) in
      cond-true (leb log.first eid) _ _ (le-leb log.first eid (omega (arith, begins, above)))
      ∙ ap (slice_get log.events) place
      ∙ sym (get_behind (first - log.first) (eid - first) log.events)
      ∙ ap (λ (l : List Event). slice_get l (eid - first)) (sym same_from)

  pub idents_more : (eid : ℕ) (so_far one : List (List ℕ)) → first ≤ eid → so_far ≡ idents (take (eid - first) (events_from (after + 1) log.events)) → one ≡ idents (option_to_list (event_at log eid))
      → so_far ++ one ≡ idents (take (eid + 1 - first) (events_from (after + 1) log.events))
  idents_more eid so_far one above before at =
      let k : suc (eid - first) ≡ eid + 1 - first = omega (arith, above) in
      ap (λ (l : List (List ℕ)). l ++ one) before
      ∙ ap (λ (l : List (List ℕ)). idents (take (eid - first) (events_from (after + 1) log.events)) ++ l) (at ∙ ap (λ (o : Option Event). idents (option_to_list o)) (there eid above))
      ∙ sym (map-append (λ (e : Event). e.subject.content.ident) (take (eid - first) (events_from (after + 1) log.events)) (option_to_list (slice_get (events_from (after + 1) log.events) (eid - first))))
      ∙ ap idents (sym (one_more (eid - first) (events_from (after + 1) log.events)))
      ∙ ap (λ (n : ℕ). idents (take n (events_from (after + 1) log.events))) k

  pub idents_all : (eid : ℕ) (so_far : List (List ℕ)) → log.last + 1 ≤ eid → so_far ≡ idents (take (eid - first) (events_from (after + 1) log.events)) → so_far ≡ later_idents after log.events
  idents_all eid so_far past before =
      let long : length (events_from (after + 1) log.events) ≤ eid - first = omega (arith, ap length same_from, length-drop (first - log.first) log.events, is.count, past, begins) in
      before ∙ ap idents (take_all (eid - first) (events_from (after + 1) log.events) long)

  pub idents_room : (eid : ℕ) (later : List (Bor (List ℕ))) → eid < log.last + 1 → values later ≡ idents (take (eid - first) (events_from (after + 1) log.events)) → length later < 4096
  idents_room eid later within are =
      omega (
        arith,
        begins,
        within,
        is.count,
        is.few,
        is.caps,
        length-map later (λ b. b.now),
        ap length are,
        length-map (take (eid - first) (events_from (after + 1) log.events)) (λ (e : Event). e.subject.content.ident),
        length-take (eid - first) (events_from (after + 1) log.events),
      )
