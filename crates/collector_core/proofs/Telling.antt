-- What a report of an answer reports is within the limits of reports.
use Rattle.std.proofs.Common.{◌≡◌, ℕ, ◌-◌, ◌≤◌, ◌&&◌, ◌||◌, Bool, true, false, eqb, leb, ltb, cond, List, [], ◌∷◌, length, take, drop, refl, sym, ap, ◌∙◌, subst, arith, length-take}
use Rattle.std.specs.Prelude.{All, filter, nat_le}
use Rattle.std.proofs.lemmas.Bool.{eqb-false, leb-true, ltb-false, or_parts}
use Rattle.std.proofs.lemmas.List.{length-drop, length-map}
use Rattle.std.proofs.lemmas.List.Sums.{count_by-le-length, length-filter}
use Rattle.std.proofs.lemmas.List.Elements.{All-cons, All-drop, All-filter, All-head, All-map, All-nil, All-take}
use Rattle.wire_base.specs.Stamp.{IsStamp}
use Rattle.swima_model.specs.declared.event.Event.{Event}
use Rattle.swima_model.specs.declared.record.Record.{Record}
use Rattle.swima_model.specs.declared.report.Report.{Report}
use Rattle.swima_model.specs.History.{from_to, live_at}
use Rattle.swima_model.specs.Kinds.{events_of_kind, record_of_kind}
use Rattle.swima_model.specs.Live.{live}
use Rattle.swima_model.specs.Size.{report_size}
use Rattle.swima_model.proofs.Honest.{live_fits}
use Rattle.swima_request.specs.declared.request.Request.{Request}
use Rattle.collector_core.specs.declared.answer.Answer.TheVariants as answer
use Rattle.collector_core.specs.Answering.{consulted_before, events_at, events_report, if_fits, inventory_at, is_wanted, told_at, wanted_records}
use Rattle.collector_core.specs.Chronicle.{Chronicle, current, first_kept, last_eid, point_of}
use Rattle.collector_core.specs.Legal.{IsLegal}
use Rattle.collector_core.specs.Meaning.{AnswersCanBeTold, CanBeTold}
use Rattle.collector_core.proofs.Along.{stamped}
use Rattle.collector_core.proofs.Answered.{asked_is, fits_is}
use Rattle.collector_core.proofs.Changing.{large_parts}
use Rattle.collector_core.proofs.Chronicles.{current_honest}

fits_size : (most : ℕ) (one report : Report) → if_fits most one ≡ answer.Report report → report_size report ≤ most
fits_size most one report e = by_test (leb (report_size one) most) refl e
  where
    by_test : (test : Bool) → leb (report_size one) most ≡ test → cond test (answer.Report one) (answer.TooLarge (report_size one) most) ≡ answer.Report report → report_size report ≤ most
    by_test true is e =
        let same : one ≡ report = cc in
        omega (arith, leb-true (report_size one) most is, ap report_size same)
    by_test false is e = absurd cc

fewer : {X : Type 0} (test : X → Bool) (xs : List X) → length (filter test xs) ≤ length xs
fewer test xs = omega (arith, length-filter test xs, count_by-le-length test xs)

-- ---- an inventory

inventory_told : (chronicle : Chronicle) (request : Request) (most : ℕ) → IsLegal chronicle → report_size (inventory_at chronicle request) ≤ most → CanBeTold most (inventory_at chronicle request)
inventory_told chronicle request most legal small =
    let held : List Record = live_at (current chronicle) (last_eid chronicle) request.kind in
    let fits = large_parts (live (current chronicle).base (take (last_eid chronicle) (current chronicle).events)) (live_fits (current chronicle) (last_eid chronicle) (current_honest chronicle legal) (omega arith)) in
    let long : length (live_at (current chronicle) (last_eid chronicle) request.kind) ≡ length (live (current chronicle).base (take (last_eid chronicle) (current chronicle).events)) =
    length-map (live (current chronicle).base (take (last_eid chronicle) (current chronicle).events)) (record_of_kind request.kind) in
    let few : length (wanted_records request.targets (live_at (current chronicle) (last_eid chronicle) request.kind)) ≤ length (live_at (current chronicle) (last_eid chronicle) request.kind) =
    fewer (λ (r : Record). is_wanted request.targets r.content.ident) (live_at (current chronicle) (last_eid chronicle) request.kind) in
    record {
      size = small;
      count = omega (arith, few, long, fits.0);
      stamps = tt;
      consulted = tt;
    }

-- ---- events

up_to : (first last : ℕ) (events : List Event) → All (λ (e : Event). e.eid ≤ last) (from_to first last events)
up_to first last [] = All-nil (λ (e : Event). e.eid ≤ last)
up_to first last (e ∷ later) = one (leb first e.eid) (leb e.eid last) (from_to first last later) (leb-true e.eid last) (up_to first last later)
  where
    one : (p q : Bool) (rest : List Event) → (q ≡ true → e.eid ≤ last) → All (λ (x : Event). x.eid ≤ last) rest → All (λ (x : Event). x.eid ≤ last) (cond (p && q) (e ∷ rest) rest)
    one true true rest within all = All-cons (λ (x : Event). x.eid ≤ last) e rest (within refl) all
    one true false rest within all = all
    one false q rest within all = all

consulted_within : (events : List Event) (last : ℕ) → All (λ (e : Event). e.eid ≤ last) events → consulted_before events last ≤ last
consulted_within [] last all = omega arith
consulted_within (e ∷ later) last all = omega (arith, All-head (λ (x : Event). x.eid ≤ last) e later all)

events_told : (chronicle : Chronicle) (request : Request) (most count : ℕ) → IsLegal chronicle → (eqb request.earliest 0 || ltb request.earliest (first_kept chronicle)) ≡ false
    → report_size (events_report request (point_of chronicle) (events_at chronicle request) count) ≤ most → CanBeTold most (events_report request (point_of chronicle) (events_at chronicle request) count)
events_told chronicle request most count legal kept small =
    let asked : List Event = from_to request.earliest (last_eid chronicle) (current chronicle).events in
    let chosen : List Event = events_at chronicle request in
    let parts = or_parts (eqb request.earliest 0) (ltb request.earliest (first_kept chronicle)) kept in
    let some = eqb-false request.earliest 0 parts.0 in
    let above : first_kept chronicle ≤ request.earliest = ltb-false request.earliest (first_kept chronicle) parts.1 in
    let long : length (from_to request.earliest (last_eid chronicle) (current chronicle).events) ≡ last_eid chronicle - (request.earliest - 1) =
    ap length (asked_is (current chronicle) request.earliest count (current_honest chronicle legal).eids) ∙ length-drop (request.earliest - 1) (current chronicle).events in
    let few : length (events_at chronicle request) ≤ length (from_to request.earliest (last_eid chronicle) (current chronicle).events) =
    fewer (λ (e : Event). is_wanted request.targets e.subject.content.ident) (from_to request.earliest (last_eid chronicle) (current chronicle).events) in
    let front : length (events_of_kind request.kind (take count (events_at chronicle request))) ≡ length (take count (events_at chronicle request)) =
    length-map (take count (events_at chronicle request)) (λ (e : Event). record e { subject = record_of_kind request.kind e.subject }) in
    let within : All (λ (e : Event). e.eid ≤ last_eid chronicle) (events_at chronicle request) =
    All-filter (λ (e : Event). is_wanted request.targets e.subject.content.ident) (λ (e : Event). e.eid ≤ last_eid chronicle) (from_to request.earliest (last_eid chronicle) (current chronicle).events)
    (up_to request.earliest (last_eid chronicle) (current chronicle).events) in
    let stamps : All (λ (e : Event). IsStamp e.stamp) (events_at chronicle request) =
    All-filter (λ (e : Event). is_wanted request.targets e.subject.content.ident) (λ (e : Event). IsStamp e.stamp) (from_to request.earliest (last_eid chronicle) (current chronicle).events)
    (All-filter (λ (e : Event). nat_le request.earliest e.eid && nat_le e.eid (last_eid chronicle)) (λ (e : Event). IsStamp e.stamp) (current chronicle).events (stamped chronicle legal)) in
    record {
      size = small;
      count = omega (arith, front, length-take count (events_at chronicle request), few, long, above, some, legal.start.cap.1);
      stamps = All-map (λ (e : Event). IsStamp e.stamp) (λ (e : Event). record e { subject = record_of_kind request.kind e.subject }) (take count (events_at chronicle request))
          (All-take (λ (e : Event). IsStamp e.stamp) count (events_at chronicle request) stamps);
      consulted = consulted_within (drop count (events_at chronicle request)) (last_eid chronicle) (All-drop (λ (e : Event). e.eid ≤ last_eid chronicle) count (events_at chronicle request) within);
    }

-- ---- the answer

pub answers_can_be_told : AnswersCanBeTold
answers_can_be_told chronicle request most report legal e = by_test (eqb request.earliest 0 || ltb request.earliest (first_kept chronicle)) refl e
  where
    by_test : (test : Bool) → (eqb request.earliest 0 || ltb request.earliest (first_kept chronicle)) ≡ test → cond test (if_fits most (inventory_at chronicle request)) (if_fits most (told_at chronicle request most)) ≡ answer.Report report
        → CanBeTold most report
    by_test true is e =
        let same : inventory_at chronicle request ≡ report = fits_is most (inventory_at chronicle request) report e in
        subst (CanBeTold most) same (inventory_told chronicle request most legal (subst (λ (r : Report). report_size r ≤ most) (sym same) (fits_size most (inventory_at chronicle request) report e)))
    by_test false is e =
        let same : told_at chronicle request most ≡ report = fits_is most (told_at chronicle request most) report e in
        subst (CanBeTold most) same (events_told chronicle request most _ legal is (subst (λ (r : Report). report_size r ≤ most) (sym same) (fits_size most (told_at chronicle request most) report e)))
