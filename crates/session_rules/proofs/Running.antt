-- A report of events goes on where the one before it stopped.
use Rattle.std.proofs.Common.{◌≡◌, inl, inr, ℕ, zero, suc, ◌+◌, ◌-◌, ◌<◌, ◌≤◌, ◌%◌, ◌^◌, ◌&&◌, ◌||◌, leb, ltb, cond, Bool, true, false, List, [], ◌∷◌, length, take, drop, refl, sym, ap, ◌∙◌, subst, arith}
use Rattle.std.specs.Prelude.{filter, max, ◌==◌}
use Rattle.std.proofs.lemmas.Bool.{cases_lt, cond-false, cond-true, eqb-false, le-leb, lt-leb}
use Rattle.std.proofs.lemmas.List.Elements.{filter_agree}
use Rattle.swima_model.specs.declared.event.Event.{Event}
use Rattle.swima_model.specs.declared.report.Point.{Point}
use Rattle.swima_model.specs.declared.report.Report.{Report}
use Rattle.swima_model.specs.declared.report.Report.TheVariants.{Inventory, Events}
use Rattle.swima_model.specs.History.{AreNumberedFrom, from_to}
use Rattle.swima_model.specs.Kinds.{events_of_kind}
use Rattle.swima_request.specs.declared.request.Request.{Request}
use Rattle.swima_subs.specs.Subscriptions.{next_from, next_request}
use Rattle.collector_core.specs.declared.answer.Answer.TheVariants as answer
use Rattle.collector_core.specs.Answering.{consulted_before, events_at, events_report, front_fits, if_fits, inventory_at, is_wanted, longest, told_at, wanted_events}
use Rattle.collector_core.specs.Chronicle.{Chronicle, current, first_kept, last_eid, point_of}
use Rattle.collector_core.specs.Legal.{IsLegal}
use Rattle.collector_core.proofs.Answered.{fits_is}
use Rattle.collector_core.proofs.Chronicles.{current_honest}
use Rattle.session_rules.specs.Answering.{reach_of}
use Rattle.session_rules.specs.SubRun.{GoesOnAfter, GoesOnFrom, ReportsGoOn, SuccessiveReports}

-- ---- events in order

-- The event identifiers rise, above the first number and up to the last.
abbrev Rises : ℕ → ℕ → List Event → Type 0
Rises low high [] = Unit {0}
Rises low high (event ∷ later) = (low < event.eid) × (event.eid ≤ high) × Rises event.eid high later

rises_from : (low less high : ℕ) (events : List Event) → less ≤ low → Rises low high events → Rises less high events
rises_from low less high [] below rises = tt
rises_from low less high (event ∷ later) below rises = (omega (arith, below, rises.0), rises.1, rises.2)

numbered_rise : (first : ℕ) (events : List Event) → AreNumberedFrom (first + 1) events → Rises first (first + length events) events
numbered_rise first [] numbered = tt
numbered_rise first (event ∷ later) numbered =
    let rest : Rises (first + 1) (first + 1 + length later) later = numbered_rise (first + 1) later numbered.1 in
    let high : first + 1 + length later ≡ first + length (event ∷ later) = omega arith in
    (omega (arith, numbered.0), omega (arith, numbered.0), rises_from (first + 1) event.eid (first + length (event ∷ later)) later (omega (arith, numbered.0)) (subst (λ (n : ℕ). Rises (first + 1) n later) high rest))

module _ (test : Event → Bool) where
  filtered_rise : (low high : ℕ) (events : List Event) → Rises low high events → Rises low high (filter test events)
  filtered_rise low high [] rises = tt
  filtered_rise low high (event ∷ later) rises = by_test (test event) (filtered_rise event.eid high later rises.2)
    where
      by_test : (b : Bool) → Rises event.eid high (filter test later) → Rises low high (cond b (event ∷ filter test later) (filter test later))
      by_test true rest = (rises.0, rises.1, rest)
      by_test false rest = rises_from event.eid low high (filter test later) (omega (arith, rises.0)) rest

-- ---- those up to the last that was consulted

abbrev up_to : ℕ → List Event → List Event
up_to last events = filter (λ (e : Event). leb e.eid last) events

none_up_to : (last low high : ℕ) (events : List Event) → last ≤ low → Rises low high events → up_to last events ≡ []
none_up_to last low high [] below rises = refl
none_up_to last low high (event ∷ later) below rises =
    cond-false (leb event.eid last) (event ∷ up_to last later) (up_to last later) (lt-leb event.eid last (omega (arith, below, rises.0)))
    ∙ none_up_to last event.eid high later (omega (arith, below, rises.0)) rises.2

-- What was consulted last is not before what is there, and not after the last.
consulted_within : (low high : ℕ) (left : List Event) → low ≤ high → Rises low high left → (low ≤ consulted_before left high) × (consulted_before left high ≤ high)
consulted_within low high [] within rises = (within, omega arith)
consulted_within low high (event ∷ later) within rises = (omega (arith, rises.0), omega (arith, rises.1))

dropped_rise : (count low high : ℕ) (events : List Event) → Rises low high events → Rises low high (drop count events)
dropped_rise zero low high events rises = rises
dropped_rise (suc count) low high [] rises = tt
dropped_rise (suc count) low high (event ∷ later) rises = rises_from event.eid low high (drop count later) (omega (arith, rises.0)) (dropped_rise count event.eid high later rises.2)

front_is : (count low high : ℕ) (events : List Event) → low ≤ high → Rises low high events → take count events ≡ up_to (consulted_before (drop count events) high) events
front_is zero low high [] within rises = refl
front_is zero low high (event ∷ later) within rises =
    sym (none_up_to (event.eid - 1) (event.eid - 1) high (event ∷ later) (omega arith) (omega (arith, rises.0), rises.1, rises.2))
front_is (suc count) low high [] within rises = refl
front_is (suc count) low high (event ∷ later) within rises =
    let last : ℕ = consulted_before (drop count later) high in
    let there = consulted_within event.eid high (drop count later) rises.1 (dropped_rise count event.eid high later rises.2) in
    ap (λ (l : List Event). event ∷ l) (front_is count event.eid high later rises.1 rises.2)
    ∙ sym (cond-true (leb event.eid (consulted_before (drop count later) high)) (event ∷ up_to (consulted_before (drop count later) high) later) (up_to (consulted_before (drop count later) high) later) (le-leb event.eid (consulted_before (drop count later) high) there.0))

-- ---- those of the epoch that match

filter_both : (f g : Event → Bool) (events : List Event) → filter f (filter g events) ≡ filter (λ (e : Event). g e && f e) events
filter_both f g [] = refl
filter_both f g (event ∷ later) = by_test (g event) (filter_both f g later)
  where
    by_test : (b : Bool) → filter f (filter g later) ≡ filter (λ (e : Event). g e && f e) later
        → filter f (cond b (event ∷ filter g later) (filter g later)) ≡ cond (b && f event) (event ∷ filter (λ (e : Event). g e && f e) later) (filter (λ (e : Event). g e && f e) later)
    by_test true same = ap (λ (l : List Event). cond (f event) (event ∷ l) l) same
    by_test false same = same

and_false : (b : Bool) → (b && false) ≡ false
and_false true = refl
and_false false = refl

-- Of those that match up to the end, those up to a number are those that match up to it.
narrow_one : (first last high eid : ℕ) (wanted : Bool) → last ≤ high → ((leb first eid && leb eid high) && (wanted && leb eid last)) ≡ ((leb first eid && leb eid last) && wanted)
narrow_one first last high eid wanted within = elim (cases_lt last eid) [
  | inl above ↦ by_low (leb first eid) (leb eid high) (leb eid last) wanted (lt-leb eid last above)
  | inr below ↦ by_high (leb first eid) (leb eid high) (leb eid last) wanted (le-leb eid last below) (le-leb eid high (omega (arith, below, within)))
]
  where
    by_low : (one two three four : Bool) → three ≡ false → ((one && two) && (four && three)) ≡ ((one && three) && four)
    by_low one two true four is = absurd cc
    by_low true true false true is = refl
    by_low true true false false is = refl
    by_low true false false four is = refl
    by_low false two false four is = refl

    by_high : (one two three four : Bool) → three ≡ true → two ≡ true → ((one && two) && (four && three)) ≡ ((one && three) && four)
    by_high one two false four is too = absurd cc
    by_high one false true four is too = absurd cc
    by_high true true true true is too = refl
    by_high true true true false is too = refl
    by_high false true true four is too = refl

narrow : (targets : List (List ℕ)) (first last high : ℕ) (events : List Event) → last ≤ high → up_to last (wanted_events targets (from_to first high events)) ≡ wanted_events targets (from_to first last events)
narrow targets first last high events within =
    filter_both (λ (e : Event). leb e.eid last) (λ (e : Event). is_wanted targets e.subject.content.ident) (from_to first high events)
    ∙ filter_both (λ (e : Event). is_wanted targets e.subject.content.ident && leb e.eid last) (λ (e : Event). leb first e.eid && leb e.eid high) events
    ∙ filter_agree (λ (e : Event). (leb first e.eid && leb e.eid high) && (is_wanted targets e.subject.content.ident && leb e.eid last)) (λ (e : Event). (leb first e.eid && leb e.eid last) && is_wanted targets e.subject.content.ident)
    (λ (e : Event). narrow_one first last high e.eid (is_wanted targets e.subject.content.ident) within) events
    ∙ sym (filter_both (λ (e : Event). is_wanted targets e.subject.content.ident) (λ (e : Event). leb first e.eid && leb e.eid last) events)

-- ---- a report of events

none_more : (n : ℕ) → 0 + n ≡ n
none_more n = omega arith

module _ (chronicle : Chronicle) (legal : IsLegal chronicle) (request : Request) where
  asked_rise : Rises 0 (last_eid chronicle) (events_at chronicle request)
  asked_rise =
      filtered_rise (λ (e : Event). is_wanted request.targets e.subject.content.ident) 0 (last_eid chronicle) (from_to request.earliest (last_eid chronicle) (current chronicle).events)
      (filtered_rise (λ (e : Event). leb request.earliest e.eid && leb e.eid (last_eid chronicle)) 0 (last_eid chronicle) (current chronicle).events (subst (λ (high : ℕ). Rises 0 high (current chronicle).events) (none_more (length (current chronicle).events)) (numbered_rise 0 (current chronicle).events (current_honest chronicle legal).eids)))

  -- With that many events from the start it has all that match, up to the last that it consulted.
  told_whole : (count : ℕ) → take count (events_at chronicle request) ≡ wanted_events request.targets (from_to request.earliest (consulted_before (drop count (events_at chronicle request)) (last_eid chronicle)) (current chronicle).events)
  told_whole count =
      front_is count 0 (last_eid chronicle) (events_at chronicle request) (omega arith) asked_rise
      ∙ narrow request.targets request.earliest (consulted_before (drop count (events_at chronicle request)) (last_eid chronicle)) (last_eid chronicle) (current chronicle).events (told_within count)
    where
      told_within : (n : ℕ) → consulted_before (drop n (events_at chronicle request)) (last_eid chronicle) ≤ last_eid chronicle
      told_within n = (consulted_within 0 (last_eid chronicle) (drop n (events_at chronicle request)) (omega arith) (dropped_rise n 0 (last_eid chronicle) (events_at chronicle request) asked_rise)).1

  pub within_last : (count : ℕ) → consulted_before (drop count (events_at chronicle request)) (last_eid chronicle) ≤ last_eid chronicle
  within_last count = (consulted_within 0 (last_eid chronicle) (drop count (events_at chronicle request)) (omega arith) (dropped_rise count 0 (last_eid chronicle) (events_at chronicle request) asked_rise)).1

-- The next request asks for events where it asks for none from 0 on.
next_earliest : (place now : Point) → place.eid < 2 ^ 32 → (next_from place now == 0) ≡ false → next_from place now ≡ place.eid + 1
next_earliest place now below some = by_epoch (place.epoch == now.epoch) some
  where
    by_epoch : (b : Bool) → (cond b ((place.eid + 1) % 2 ^ 32) 0 == 0) ≡ false → cond b ((place.eid + 1) % 2 ^ 32) 0 ≡ place.eid + 1
    by_epoch true some =
        let other : (place.eid + 1) % 2 ^ 32 ≡ 0 → ⊥ = eqb-false ((place.eid + 1) % 2 ^ 32) 0 some in
        elim (cases_lt (place.eid + 1) 4294967296) [
          | inl less ↦ omega (arith, less)
          | inr most ↦ absurd (other (omega (arith, most, below)))
        ]
    by_epoch false some = absurd cc

module _ (chronicle : Chronicle) (request : Request) (place now : Point) (most : ℕ) (legal : IsLegal chronicle) (below : place.eid < 2 ^ 32) where
  abbrev asked : Request
  asked = next_request request place now

  events_go_on : (count : ℕ) → next_from place now ≡ place.eid + 1 → GoesOnFrom chronicle request place (events_report (next_request request place now) (point_of chronicle) (events_at chronicle (next_request request place now)) count)
  events_go_on count is = (
    refl,
    refl,
    within_last chronicle legal (next_request request place now) count,
    λ same.
        ap (λ (es : List Event). events_of_kind request.kind es) (told_whole chronicle legal (next_request request place now) count)
        ∙ ap (λ (n : ℕ). events_of_kind request.kind (wanted_events request.targets (from_to n (consulted_before (drop count (events_at chronicle (next_request request place now))) (last_eid chronicle)) (current chronicle).events))) is,
  )

  goes_on : (test : Bool) (report : Report) → (next_from place now == 0) ≡ false → cond test (if_fits most (inventory_at chronicle (next_request request place now))) (if_fits most (told_at chronicle (next_request request place now) most)) ≡ answer.Report report
      → GoesOnFrom chronicle request place report
  goes_on true report some is =
      subst (λ (r : Report). GoesOnFrom chronicle request place r) (fits_is most (inventory_at chronicle (next_request request place now)) report is) tt
  goes_on false report some is =
      subst (λ (r : Report). GoesOnFrom chronicle request place r) (fits_is most (told_at chronicle (next_request request place now) most) report is)
      (events_go_on (max 1 (longest (front_fits (next_request request place now) (point_of chronicle) (events_at chronicle (next_request request place now)) most) (length (events_at chronicle (next_request request place now))))) (next_earliest place now below some))

  by_earliest : (zero-so kept : Bool) (report : Report) → (next_from place now == 0) ≡ zero-so
      → cond (zero-so || kept) (if_fits most (inventory_at chronicle (next_request request place now))) (if_fits most (told_at chronicle (next_request request place now) most)) ≡ answer.Report report
      → GoesOnFrom chronicle request place report
  by_earliest true kept report none is =
      subst (λ (r : Report). GoesOnFrom chronicle request place r) (fits_is most (inventory_at chronicle (next_request request place now)) report is) tt
  by_earliest false kept report some is = goes_on kept report some is

pub reports_go_on : ReportsGoOn
reports_go_on chronicle request place now most report legal below is =
    by_earliest chronicle request place now most legal below (next_from place now == 0) (ltb (next_from place now) (first_kept chronicle)) report refl is

-- ---- two reports

goes_on_after : (chronicle : Chronicle) (request : Request) (first second : Report) → GoesOnFrom chronicle request (reach_of first) second → GoesOnAfter chronicle request first second
goes_on_after chronicle request (Inventory kind fulfil id point records) second goes = tt
goes_on_after chronicle request (Events kind fulfil id point consulted events) (Inventory later_kind later_fulfil later_id later_point records) goes = tt
goes_on_after chronicle request (Events kind fulfil id point consulted events) (Events later_kind later_fulfil later_id later_point last later) goes = goes.3

pub successive_reports : SuccessiveReports
successive_reports chronicle request first second now most legal below is =
    goes_on_after chronicle request first second (reports_go_on chronicle request (reach_of first) now most second legal below is)
