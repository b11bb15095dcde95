-- Answers to requests without targets are answers of the history.
use Rattle.std.proofs.Common.{◌≡◌, inl, inr, ℕ, zero, suc, ◌+◌, ◌-◌, ◌≤◌, ◌&&◌, ◌||◌, eqb, leb, ltb, cond, Bool, true, false, List, [], ◌∷◌, length, take, drop, refl, sym, ap, ◌∙◌, subst, arith, length-append}
use Rattle.std.specs.Prelude.{Contains}
use Rattle.std.proofs.Math.Seq.{get_or-append_seam}
use Rattle.std.proofs.lemmas.Bool.{cases_lt, le-leb, lt-leb}
use Rattle.std.proofs.lemmas.List.{length-drop, take_all}
use Rattle.swima_model.specs.declared.event.Event.{Event}
use Rattle.swima_model.specs.declared.record.Record.{Record}
use Rattle.swima_model.specs.declared.report.Kind.{Kind}
use Rattle.swima_model.specs.declared.report.Report.{Report}
use Rattle.swima_model.specs.History.{Epoch, History, AreNumberedFrom, Answers, LiesIn, TellsAll, from_to, live_at}
use Rattle.swima_model.specs.Kinds.{events_of_kind}
use Rattle.swima_model.specs.Size.{report_size}
use Rattle.swima_request.specs.declared.request.Request.{Request}
use Rattle.event_log.proofs.Pushing.{numbered_drop}
use Rattle.collector_core.specs.declared.answer.Answer.TheVariants as answer
use Rattle.collector_core.specs.Chronicle.{Chronicle, current, history, last_eid, point_of, first_kept}
use Rattle.collector_core.specs.Legal.{IsLegal}
use Rattle.collector_core.specs.Answering.{wanted_records, wanted_events, if_fits, consulted_before, events_report, inventory_at, events_at, told_at}
use Rattle.collector_core.specs.Meaning.{AnswersAreOfTheHistory}
use Rattle.collector_core.proofs.Chronicles.{past, history_is, current_honest}

-- ---- numbered events between two event identifiers

between_step : (p q : Bool) (x : Event) (rest : List Event) → p ≡ true → q ≡ true → cond (p && q) (x ∷ rest) rest ≡ x ∷ rest
between_step true true x rest a b = refl
between_step true false x rest a b = absurd cc
between_step false q x rest a b = absurd cc

not_low : (p q : Bool) (x : Event) (rest : List Event) → p ≡ false → cond (p && q) (x ∷ rest) rest ≡ rest
not_low true q x rest a = absurd cc
not_low false q x rest a = refl

pub not_high : (p q : Bool) (x : Event) (rest : List Event) → q ≡ false → cond (p && q) (x ∷ rest) rest ≡ rest
not_high true true x rest a = absurd cc
not_high true false x rest a = refl
not_high false q x rest a = refl

take_nothing : (k : ℕ) → take {A = Event} k [] ≡ []
take_nothing zero = refl
take_nothing (suc k) = refl

drop_nothing : (k : ℕ) → drop {A = Event} k [] ≡ []
drop_nothing zero = refl
drop_nothing (suc k) = refl

pub between : (low high n : ℕ) (xs : List Event) → AreNumberedFrom n xs → from_to low high xs ≡ take (high + 1 - (n + (low - n))) (drop (low - n) xs)
between low high n [] are = sym (ap (take (high + 1 - (n + (low - n)))) (drop_nothing (low - n)) ∙ take_nothing (high + 1 - (n + (low - n))))
between low high n (x ∷ xs) are = elim (cases_lt n low) [
  | inl below ↦
      let k : low - n ≡ suc (low - (n + 1)) = omega (arith, below) in
      let m : high + 1 - (n + 1 + (low - (n + 1))) ≡ high + 1 - (n + (low - n)) = omega (arith, below) in
      not_low (leb low x.eid) (leb x.eid high) x (from_to low high xs) (lt-leb low x.eid (omega (arith, are.0, below)))
      ∙ between low high (n + 1) xs are.1
      ∙ ap (λ (i : ℕ). take i (drop (low - (n + 1)) xs)) m
      ∙ ap (λ (i : ℕ). take (high + 1 - (n + (low - n))) (drop i (x ∷ xs))) (sym k)
  | inr from ↦
      let k : low - n ≡ 0 = omega (arith, from) in
      let k1 : low - (n + 1) ≡ 0 = omega (arith, from) in
      elim (cases_lt high n) [
        | inl over ↦
            let none : high + 1 - (n + (low - n)) ≡ 0 = omega (arith, over, from) in
            let none1 : high + 1 - (n + 1 + (low - (n + 1))) ≡ 0 = omega (arith, over, from) in
            not_high (leb low x.eid) (leb x.eid high) x (from_to low high xs) (lt-leb x.eid high (omega (arith, are.0, over)))
            ∙ between low high (n + 1) xs are.1
            ∙ ap (λ (i : ℕ). take i (drop (low - (n + 1)) xs)) none1
            ∙ ap (λ (i : ℕ). take i (drop (low - n) (x ∷ xs))) (sym none)
        | inr within ↦
            let some : high + 1 - (n + (low - n)) ≡ suc (high + 1 - (n + 1 + (low - (n + 1)))) = omega (arith, within, from) in
            between_step (leb low x.eid) (leb x.eid high) x (from_to low high xs) (le-leb low x.eid (omega (arith, are.0, from))) (le-leb x.eid high (omega (arith, are.0, within)))
            ∙ ap (λ (l : List Event). x ∷ l) (between low high (n + 1) xs are.1 ∙ ap (λ (i : ℕ). take (high + 1 - (n + 1 + (low - (n + 1)))) (drop i xs)) k1)
            ∙ ap (λ (i : ℕ). take i (x ∷ xs)) (sym some)
            ∙ ap (λ (i : ℕ). take (high + 1 - (n + (low - n))) (drop i (x ∷ xs))) (sym k)
      ]
]

first_eid : (n k : ℕ) (xs : List Event) (y : Event) (rest : List Event) → AreNumberedFrom n xs → take k xs ≡ y ∷ rest → y.eid ≡ n
first_eid n zero xs y rest are e = absurd cc
first_eid n (suc k) [] y rest are e = absurd cc
first_eid n (suc k) (x ∷ xs) y rest are e = let same : x ≡ y = cc in ap (λ (z : Event). z.eid) (sym same) ∙ are.0

head_eid : (n : ℕ) (xs : List Event) (y : Event) (rest : List Event) → AreNumberedFrom n xs → xs ≡ y ∷ rest → y.eid ≡ n
head_eid n [] y rest are e = absurd cc
head_eid n (x ∷ xs) y rest are e = let same : x ≡ y = cc in ap (λ (z : Event). z.eid) (sym same) ∙ are.0

-- ---- without targets all match

all_records : (rs : List Record) → wanted_records [] rs ≡ rs
all_records [] = refl
all_records (r ∷ rs) = ap (λ (l : List Record). r ∷ l) (all_records rs)

all_events : (es : List Event) → wanted_events [] es ≡ es
all_events [] = refl
all_events (e ∷ es) = ap (λ (l : List Event). e ∷ l) (all_events es)

-- ---- the parts of an answer

tells : (epoch : Epoch) (kind : Kind) (consulted : ℕ) (ys : List Event) → ((y : Event) (rest : List Event) → ys ≡ y ∷ rest → ys ≡ from_to y.eid consulted epoch.events) → TellsAll epoch kind consulted (events_of_kind kind ys)
tells epoch kind consulted [] whole = tt
tells epoch kind consulted (y ∷ rest) whole = ap (events_of_kind kind) (whole y rest refl)

module _ (epoch : Epoch) (earliest count : ℕ) (numbered : AreNumberedFrom 1 epoch.events) where
  abbrev last : ℕ
  last = length epoch.events

  abbrev behind : ℕ
  behind = earliest - 1

  abbrev asked : List Event
  asked = drop (earliest - 1) epoch.events

  pub asked_is : from_to earliest (length epoch.events) epoch.events ≡ drop (earliest - 1) epoch.events
  asked_is =
      between earliest (length epoch.events) 1 epoch.events numbered
      ∙ take_all (length epoch.events + 1 - (1 + (earliest - 1))) (drop (earliest - 1) epoch.events) (omega (arith, length-drop (earliest - 1) epoch.events))

  numbers : AreNumberedFrom (1 + (earliest - 1)) (drop (earliest - 1) epoch.events)
  numbers = numbered_drop 1 (earliest - 1) epoch.events numbered

  -- Up to which event identifier that many of them go.
  consulted_is : (left : List Event) → drop count (drop (earliest - 1) epoch.events) ≡ left
      → (consulted_before left (length epoch.events) ≤ length epoch.events) × (take count (drop (earliest - 1) epoch.events) ≡ take (consulted_before left (length epoch.events) - (earliest - 1)) (drop (earliest - 1) epoch.events))
  consulted_is [] e =
      let long : length (drop (earliest - 1) epoch.events) ≤ count = omega (arith, ap length e, length-drop count (drop (earliest - 1) epoch.events)) in (
        omega arith,
        take_all count (drop (earliest - 1) epoch.events) long
            ∙ sym (take_all (length epoch.events - (earliest - 1)) (drop (earliest - 1) epoch.events) (omega (arith, length-drop (earliest - 1) epoch.events))),
      )
  consulted_is (x ∷ later) e =
      let eid : x.eid ≡ 1 + (earliest - 1) + count = head_eid (1 + (earliest - 1) + count) (drop count (drop (earliest - 1) epoch.events)) x later (numbered_drop (1 + (earliest - 1)) count (drop (earliest - 1) epoch.events) numbers) e in
      let more : 1 ≤ length epoch.events - (earliest - 1) - count = omega (arith, ap length e, length-drop count (drop (earliest - 1) epoch.events), length-drop (earliest - 1) epoch.events) in
      let k : count ≡ x.eid - 1 - (earliest - 1) = omega (arith, eid) in
      (omega (arith, eid, more), ap (λ (i : ℕ). take i (drop (earliest - 1) epoch.events)) k)

  pub told_all : (kind : Kind) → (consulted_before (drop count (drop (earliest - 1) epoch.events)) (length epoch.events) ≤ length epoch.events)
      × TellsAll epoch kind (consulted_before (drop count (drop (earliest - 1) epoch.events)) (length epoch.events)) (events_of_kind kind (take count (drop (earliest - 1) epoch.events)))
  told_all kind =
      let is = consulted_is (drop count (drop (earliest - 1) epoch.events)) refl in (
        is.0,
        tells epoch kind (consulted_before (drop count (drop (earliest - 1) epoch.events)) (length epoch.events)) (take count (drop (earliest - 1) epoch.events))
            (λ y rest e.
            let eid : y.eid ≡ 1 + (earliest - 1) = first_eid (1 + (earliest - 1)) count (drop (earliest - 1) epoch.events) y rest numbers e in
            let s : y.eid - 1 ≡ earliest - 1 = omega (arith, eid) in
            let w : consulted_before (drop count (drop (earliest - 1) epoch.events)) (length epoch.events) + 1 - (1 + (y.eid - 1)) ≡ consulted_before (drop count (drop (earliest - 1) epoch.events)) (length epoch.events) - (earliest - 1) = omega (arith, eid) in
            is.1
            ∙ ap (λ (i : ℕ). take i (drop (earliest - 1) epoch.events)) (sym w)
            ∙ ap (λ (i : ℕ). take (consulted_before (drop count (drop (earliest - 1) epoch.events)) (length epoch.events) + 1 - (1 + (y.eid - 1))) (drop i epoch.events)) (sym s)
            ∙ sym (between y.eid (consulted_before (drop count (drop (earliest - 1) epoch.events)) (length epoch.events)) 1 epoch.events numbered)),
      )

-- ---- the answer

pub fits_is : (most : ℕ) (one report : Report) → if_fits most one ≡ answer.Report report → one ≡ report
fits_is most one report e = by_test (leb (report_size one) most) e
  where
    by_test : (test : Bool) → cond test (answer.Report one) (answer.TooLarge (report_size one) most) ≡ answer.Report report → one ≡ report
    by_test true e = cc
    by_test false e = absurd cc

lies : (chronicle : Chronicle) (holds : Epoch → Type 0) → holds (current chronicle) → LiesIn (history chronicle) (point_of chronicle) holds
lies chronicle holds is = record {
  epoch = current chronicle;
  among = subst (λ (h : History). Contains h (current chronicle)) (sym (history_is chronicle))
      (length (past chronicle), omega (arith, length-append (past chronicle) (current chronicle ∷ [])), get_or-append_seam (past chronicle) (current chronicle) [] (current chronicle));
  named = refl;
  reached = omega arith;
  holds_so = is;
}

inventory_answers : (chronicle : Chronicle) (request : Request) → request.targets ≡ [] → Answers (history chronicle) (inventory_at chronicle request)
inventory_answers chronicle request none =
    lies chronicle (λ epoch. wanted_records request.targets (live_at (current chronicle) (last_eid chronicle) request.kind) ≡ live_at epoch (last_eid chronicle) request.kind)
    (ap (λ (ts : List (List ℕ)). wanted_records ts (live_at (current chronicle) (last_eid chronicle) request.kind)) none ∙ all_records (live_at (current chronicle) (last_eid chronicle) request.kind))

events_answer : (chronicle : Chronicle) (request : Request) (count : ℕ) → IsLegal chronicle → request.targets ≡ [] → Answers (history chronicle) (events_report request (point_of chronicle) (events_at chronicle request) count)
events_answer chronicle request count legal none =
    let numbered = (current_honest chronicle legal).eids in
    let asked : events_at chronicle request ≡ drop (request.earliest - 1) (current chronicle).events =
    ap (λ (ts : List (List ℕ)). wanted_events ts (from_to request.earliest (last_eid chronicle) (current chronicle).events)) none
    ∙ all_events (from_to request.earliest (last_eid chronicle) (current chronicle).events)
    ∙ asked_is (current chronicle) request.earliest count numbered in
    subst (λ (es : List Event). Answers (history chronicle) (events_report request (point_of chronicle) es count)) (sym asked)
    (lies chronicle (λ epoch. (consulted_before (drop count (drop (request.earliest - 1) (current chronicle).events)) (last_eid chronicle) ≤ last_eid chronicle)
    × TellsAll epoch request.kind (consulted_before (drop count (drop (request.earliest - 1) (current chronicle).events)) (last_eid chronicle)) (events_of_kind request.kind (take count (drop (request.earliest - 1) (current chronicle).events))))
    (told_all (current chronicle) request.earliest count numbered request.kind))

pub answers_are_of_the_history : AnswersAreOfTheHistory
answers_are_of_the_history chronicle request most report legal none e =
    by_test (eqb request.earliest 0 || ltb request.earliest (first_kept chronicle)) e
  where
    by_test : (test : Bool) → cond test (if_fits most (inventory_at chronicle request)) (if_fits most (told_at chronicle request most)) ≡ answer.Report report → Answers (history chronicle) report
    by_test true e = subst (Answers (history chronicle)) (fits_is most (inventory_at chronicle request) report e) (inventory_answers chronicle request none)
    by_test false e = subst (Answers (history chronicle)) (fits_is most (told_at chronicle request most) report e) (events_answer chronicle request _ legal none)
