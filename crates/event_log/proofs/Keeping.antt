-- Events from one event identifier on, and what a log keeps in all.
use Rattle.std.proofs.Common.{◌≡◌, inl, inr, ℕ, ◌+◌, ◌-◌, ◌≤◌, ◌&&◌, leb, cond, Bool, true, false, List, [], ◌∷◌, ◌++◌, length, refl, sym, ap, ◌∙◌, arith, length-append}
use Rattle.std.specs.Prelude.{max}
use Rattle.std.proofs.lemmas.Bool.{cases_lt, cond-true, le-leb, lt-leb}
use Rattle.std.proofs.lemmas.List.Elements.{filter-append}
use Rattle.swima_model.specs.declared.event.Event.{Event}
use Rattle.swima_model.specs.History.{AreNumberedFrom}
use Rattle.event_log.specs.Log.{Log, events_from, kept_from, pushed}
use Rattle.event_log.specs.Meaning.{NewKeepsAll, PushKeeps, TrimKeeps, first_of}

-- ---- events from one identifier on, and of these from another

both_step : {X : Type 0} (p q both : Bool) (x : X) (ps qs bs : List X) → (p && q) ≡ both → qs ≡ bs → cond p (cond q (x ∷ qs) qs) qs ≡ cond both (x ∷ bs) bs
both_step true true true x ps qs bs is e = ap (λ (l : List _). x ∷ l) e
both_step true true false x ps qs bs is e = absurd cc
both_step true false true x ps qs bs is e = absurd cc
both_step true false false x ps qs bs is e = e
both_step false q true x ps qs bs is e = absurd cc
both_step false q false x ps qs bs is e = e

from_of_cond : (a : ℕ) (p : Bool) (x : Event) (xs : List Event) → events_from a (cond p (x ∷ xs) xs) ≡ cond p (events_from a (x ∷ xs)) (events_from a xs)
from_of_cond a true x xs = refl
from_of_cond a false x xs = refl

both_from : (a b n : ℕ) → (leb b n && leb a n) ≡ leb (max b a) n
both_from a b n = elim (cases_lt n b) [
  | inl below ↦ ap (λ (t : Bool). t && leb a n) (lt-leb b n below) ∙ sym (lt-leb (max b a) n (omega (arith, below)))
  | inr from ↦ elim (cases_lt n a) [
    | inl below ↦ ap (λ (t : Bool). leb b n && t) (lt-leb a n below) ∙ none (leb b n) ∙ sym (lt-leb (max b a) n (omega (arith, below)))
    | inr too ↦ ap (λ (t : Bool). t && leb a n) (le-leb b n from) ∙ le-leb a n too ∙ sym (le-leb (max b a) n (omega (arith, from, too)))
  ]
]
  where
    none : (t : Bool) → (t && false) ≡ false
    none true = refl
    none false = refl

pub from_from : (a b : ℕ) (xs : List Event) → events_from a (events_from b xs) ≡ events_from (max b a) xs
from_from a b [] = refl
from_from a b (x ∷ xs) =
    from_of_cond a (leb b x.eid) x (events_from b xs)
    ∙ both_step (leb b x.eid) (leb a x.eid) (leb (max b a) x.eid) x (events_from b xs) (events_from a (events_from b xs)) (events_from (max b a) xs)
    (both_from a b x.eid) (from_from a b xs)

-- ---- events

-- The log's events after one more.
pub pushed_events : (a b : ℕ) (xs : List Event) (e : Event) → b ≤ e.eid → events_from a (events_from b xs ++ e ∷ []) ≡ events_from (max b a) (xs ++ e ∷ [])
pushed_events a b xs e le =
    let one : events_from b (e ∷ []) ≡ e ∷ [] = cond-true (leb b e.eid) (e ∷ []) [] (le-leb b e.eid le) in
    ap (λ (l : List Event). events_from a (events_from b xs ++ l)) (sym one)
    ∙ ap (events_from a) (sym (filter-append (λ (x : Event). leb b x.eid) xs (e ∷ [])))
    ∙ from_from a b (xs ++ e ∷ [])

-- ---- what a log keeps in all

-- The log that keeps these events of all.
abbrev kept_of : ℕ → ℕ → ℕ → List Event → Log
kept_of cap first last all = record { cap = cap; first = first; last = last; events = events_from first all }

pub new_keeps_all : NewKeepsAll
new_keeps_all cap some =
    let first : 1 ≡ first_of cap 1 0 = omega (arith, some) in
    ap (λ (n : ℕ). kept_of cap n 0 []) first

last_numbered : (n : ℕ) (xs : List Event) (e : Event) → AreNumberedFrom n (xs ++ e ∷ []) → e.eid ≡ n + length xs
last_numbered n [] e are = omega (arith, are.0)
last_numbered n (x ∷ xs) e are = omega (arith, last_numbered (n + 1) xs e are.1)

pub push_keeps : PushKeeps
push_keeps cap trim all e log some within are keeps =
    let eid : e.eid ≡ 1 + length all = last_numbered 1 all e are in
    let count : length (all ++ e ∷ []) ≡ length all + 1 = length-append all (e ∷ []) in
    let last : e.eid ≡ length (all ++ e ∷ []) = omega (arith, eid, count) in
    let first : max (first_of cap trim (length all)) (e.eid + 1 - cap) ≡ first_of cap trim (length (all ++ e ∷ [])) = omega (arith, eid, count) in
    ap (λ (l : Log). pushed l e) keeps
    ∙ ap (λ (es : List Event). record { cap = cap; first = max (first_of cap trim (length all)) (e.eid + 1 - cap); last = e.eid; events = es })
    (pushed_events (e.eid + 1 - cap) (first_of cap trim (length all)) all e (omega (arith, eid, within, some)))
    ∙ ap (λ (n : ℕ). kept_of cap n e.eid (all ++ e ∷ [])) first
    ∙ ap (λ (n : ℕ). kept_of cap (first_of cap trim (length (all ++ e ∷ []))) n (all ++ e ∷ [])) last

pub trim_keeps : TrimKeeps
trim_keeps cap trim first all log keeps =
    let at : max (first_of cap trim (length all)) first ≡ first_of cap (max trim first) (length all) = omega arith in
    ap (kept_from first) keeps
    ∙ ap (λ (es : List Event). record { cap = cap; first = max (first_of cap trim (length all)) first; last = length all; events = es }) (from_from first (first_of cap trim (length all)) all)
    ∙ ap (λ (n : ℕ). kept_of cap n (length all) all) at
