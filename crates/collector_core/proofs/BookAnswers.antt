-- A book answers what is right at each chronicle that it stands for.
use Rattle.std.proofs.Common.{◌≡◌, inl, inr, ℕ, ◌+◌, ◌<◌, ◌≤◌, ◌&&◌, ◌||◌, eqb, leb, ltb, cond, Bool, true, false, not, List, [], ◌∷◌, refl, sym, ap, ◌∙◌, subst, arith, take_all}
use Rattle.std.specs.List.{list_any}
use Rattle.std.proofs.lemmas.Bool.{cases_lt, cond-true, cond-false, le-leb, lt-leb, lt-ltb, le-ltb, ltb-false, ne_eqb}
use Rattle.swima_model.specs.declared.event.Event.{Event}
use Rattle.swima_model.specs.declared.record.Record.{Record}
use Rattle.swima_model.specs.declared.report.Kind.{Kind}
use Rattle.swima_model.specs.declared.report.Point.{Point}
use Rattle.swima_model.specs.declared.report.Report.TheVariants.{Inventory}
use Rattle.swima_model.specs.History.{from_to, live_at}
use Rattle.swima_model.specs.Kinds.{record_of_kind, records_of_kind}
use Rattle.swima_model.specs.Live.{live}
use Rattle.swima_request.specs.declared.request.Request.{Request}
use Rattle.event_log.specs.Log.{events_from}
use Rattle.event_log.proofs.Pushing.{from_is_drop}
use Rattle.collector_core.specs.declared.answer.Answer.{Answer}
use Rattle.collector_core.specs.declared.answer.Answer.TheVariants as answer
use Rattle.collector_core.specs.Chronicle.{Chronicle, current, first_kept, last_eid, point_of}
use Rattle.collector_core.specs.Answering.{AnswerIs, answer_at, if_fits, inventory_at, is_later, is_wanted, moved_at, told, wanted_events, wanted_records}
use Rattle.collector_core.specs.BookAnswer.{book_answer, book_moved, book_point, inventory_of}
use Rattle.collector_core.specs.Standing.{BookView, Stands}
use Rattle.collector_core.proofs.Answered.{asked_is}
use Rattle.collector_core.proofs.Wanting.{events_alike, records_alike}
use Rattle.collector_core.proofs.Chronicles.{current_honest}

pub point_is : (book : BookView) (chronicle : Chronicle) → Stands book chronicle → book_point book ≡ point_of chronicle
point_is book chronicle stands =
    ap (λ (n : ℕ). record { epoch = n; eid = book.log.last }) stands.epoch ∙ ap (λ (n : ℕ). record { epoch = (current chronicle).number; eid = n }) stands.last

-- ---- the inventory

-- To choose records and to leave out bodies goes in either order.
chosen_of_kind : (targets : List (List ℕ)) (kind : Kind) (rs : List Record) → records_of_kind kind (wanted_records targets rs) ≡ wanted_records targets (records_of_kind kind rs)
chosen_of_kind targets kind [] = refl
chosen_of_kind targets kind (r ∷ rs) = by_test (is_wanted targets r.content.ident) (chosen_of_kind targets kind rs)
  where
    by_test : (test : Bool) → records_of_kind kind (wanted_records targets rs) ≡ wanted_records targets (records_of_kind kind rs)
        → records_of_kind kind (cond test (r ∷ wanted_records targets rs) (wanted_records targets rs)) ≡ cond test (record_of_kind kind r ∷ wanted_records targets (records_of_kind kind rs)) (wanted_records targets (records_of_kind kind rs))
    by_test true e = ap (λ (l : List Record). record_of_kind kind r ∷ l) e
    by_test false e = e

inventory_is : (book : BookView) (chronicle : Chronicle) (request : Request) → Stands book chronicle
    → inventory_of request (book_point book) (wanted_records request.targets book.records) ≡ inventory_at chronicle request
inventory_is book chronicle request stands =
    let held : records_of_kind request.kind book.records ≡ live_at (current chronicle) (last_eid chronicle) request.kind =
    ap (records_of_kind request.kind) (stands.records ∙ ap (λ (es : List Event). live (current chronicle).base es) (sym (take_all (last_eid chronicle) (current chronicle).events (omega arith)))) in
    ap (λ (point : Point). inventory_of request point (wanted_records request.targets book.records)) (point_is book chronicle stands)
    ∙ ap (λ (rs : List Record). Inventory request.kind false request.id (point_of chronicle) rs)
    (chosen_of_kind request.targets request.kind book.records ∙ ap (wanted_records request.targets) held)

-- ---- events

later_from : (first earliest : ℕ) (xs : List Event) → first ≤ earliest → events_from earliest (events_from first xs) ≡ events_from earliest xs
later_from first earliest [] within = refl
later_from first earliest (x ∷ xs) within = elim (cases_lt x.eid first) [
  | inl below ↦
      ap (events_from earliest) (cond-false (leb first x.eid) (x ∷ events_from first xs) (events_from first xs) (lt-leb first x.eid below))
      ∙ later_from first earliest xs within
      ∙ sym (cond-false (leb earliest x.eid) (x ∷ events_from earliest xs) (events_from earliest xs) (lt-leb earliest x.eid (omega (arith, below, within))))
  | inr from ↦
      ap (events_from earliest) (cond-true (leb first x.eid) (x ∷ events_from first xs) (events_from first xs) (le-leb first x.eid from))
      ∙ ap (λ (l : List Event). cond (leb earliest x.eid) (x ∷ l) l) (later_from first earliest xs within)
]

events_is : (book : BookView) (chronicle : Chronicle) (request : Request) → Stands book chronicle → first_kept chronicle ≤ request.earliest
    → events_from request.earliest book.log.events ≡ from_to request.earliest (last_eid chronicle) (current chronicle).events
events_is book chronicle request stands kept =
    let numbered = (current_honest chronicle stands.legal).eids in
    ap (events_from request.earliest) stands.events
    ∙ later_from (first_kept chronicle) request.earliest (current chronicle).events kept
    ∙ from_is_drop request.earliest 1 (current chronicle).events numbered
    ∙ sym (asked_is (current chronicle) request.earliest 0 numbered)

-- ---- the answer

neither : (a b : Bool) → (a || b) ≡ false → b ≡ false
neither true b is = absurd cc
neither false b is = is

pub answer_is : (book : BookView) (chronicle : Chronicle) (request : Request) (most : ℕ) → Stands book chronicle → book_answer book request most ≡ answer_at chronicle request most
answer_is book chronicle request most stands = by_test (eqb request.earliest 0 || ltb request.earliest (first_kept chronicle)) refl
  where
    same_test : (eqb request.earliest 0 || ltb request.earliest book.log.first) ≡ (eqb request.earliest 0 || ltb request.earliest (first_kept chronicle))
    same_test = ap (λ (n : ℕ). eqb request.earliest 0 || ltb request.earliest n) stands.first

    by_test : (test : Bool) → (eqb request.earliest 0 || ltb request.earliest (first_kept chronicle)) ≡ test → book_answer book request most ≡ answer_at chronicle request most
    by_test true is =
        cond-true (eqb request.earliest 0 || ltb request.earliest book.log.first) _ _ (same_test ∙ is)
        ∙ ap (if_fits most) (inventory_is book chronicle request stands)
        ∙ sym (cond-true (eqb request.earliest 0 || ltb request.earliest (first_kept chronicle)) _ _ is)
    by_test false is =
        let kept : first_kept chronicle ≤ request.earliest = ltb-false request.earliest (first_kept chronicle) (neither (eqb request.earliest 0) (ltb request.earliest (first_kept chronicle)) is) in
        cond-false (eqb request.earliest 0 || ltb request.earliest book.log.first) _ _ (same_test ∙ is)
        ∙ ap (λ (point : Point). if_fits most (told request point (wanted_events request.targets (events_from request.earliest book.log.events)) most)) (point_is book chronicle stands)
        ∙ ap (λ (es : List Event). if_fits most (told request (point_of chronicle) (wanted_events request.targets es) most)) (events_is book chronicle request stands kept)
        ∙ sym (cond-false (eqb request.earliest 0 || ltb request.earliest (first_kept chronicle)) _ _ is)

-- What equals the answer is it, unless memory ran out.
pub answered : (given wanted : Answer) → given ≡ wanted → AnswerIs given wanted
answered (answer.Report report) wanted is = is
answered (answer.TooLarge size most) wanted is = is
answered answer.Memory wanted is = tt

pub answered_at : (book : BookView) (chronicle : Chronicle) (request : Request) (most : ℕ) (given : Answer) → Stands book chronicle → AnswerIs given (book_answer book request most) → AnswerIs given (answer_at chronicle request most)
answered_at book chronicle request most given stands is = subst (AnswerIs given) (answer_is book chronicle request most stands) is

-- ---- moves

none_below : (after : ℕ) (targets : List (List ℕ)) (event : Event) → event.eid ≤ after → is_later after targets event ≡ false
none_below after targets event below = ap (λ (b : Bool). b && is_wanted targets event.subject.content.ident) (le-ltb after event.eid below)

any_kept : (first after : ℕ) (targets : List (List ℕ)) (xs : List Event) → first ≤ after + 1 → list_any (is_later after targets) (events_from first xs) ≡ list_any (is_later after targets) xs
any_kept first after targets [] within = refl
any_kept first after targets (x ∷ xs) within = elim (cases_lt x.eid first) [
  | inl below ↦
      ap (list_any (is_later after targets)) (cond-false (leb first x.eid) (x ∷ events_from first xs) (events_from first xs) (lt-leb first x.eid below))
      ∙ any_kept first after targets xs within
      ∙ ap (λ (b : Bool). b || list_any (is_later after targets) xs) (sym (none_below after targets x (omega (arith, below, within))))
  | inr from ↦
      ap (list_any (is_later after targets)) (cond-true (leb first x.eid) (x ∷ events_from first xs) (events_from first xs) (le-leb first x.eid from))
      ∙ ap (λ (b : Bool). is_later after targets x || b) (any_kept first after targets xs within)
]

pub moved_is : (book : BookView) (chronicle : Chronicle) (after : Point) (targets : List (List ℕ)) → Stands book chronicle → book_moved book after targets ≡ moved_at chronicle after targets
moved_is book chronicle after targets stands =
    ap (λ (n : ℕ). not (eqb after.epoch n) || ltb (after.eid + 1) book.log.first || list_any (is_later after.eid targets) book.log.events) stands.epoch
    ∙ ap (λ (n : ℕ). not (eqb after.epoch (current chronicle).number) || ltb (after.eid + 1) n || list_any (is_later after.eid targets) book.log.events) stands.first
    ∙ ap (λ (es : List Event). not (eqb after.epoch (current chronicle).number) || ltb (after.eid + 1) (first_kept chronicle) || list_any (is_later after.eid targets) es) stands.events
    ∙ by_test (not (eqb after.epoch (current chronicle).number)) (ltb (after.eid + 1) (first_kept chronicle)) refl
  where
    by_test : (other forgotten : Bool) → ltb (after.eid + 1) (first_kept chronicle) ≡ forgotten
        → (other || forgotten || list_any (is_later after.eid targets) (events_from (first_kept chronicle) (current chronicle).events)) ≡ (other || forgotten || list_any (is_later after.eid targets) (current chronicle).events)
    by_test true forgotten is = refl
    by_test false true is = refl
    by_test false false is = any_kept (first_kept chronicle) after.eid targets (current chronicle).events (ltb-false (after.eid + 1) (first_kept chronicle) is)

-- ---- by which part of the code

either_true : (a b : Bool) → b ≡ true → (a || b) ≡ true
either_true true b is = refl
either_true false b is = is

both_false : (a b : Bool) → a ≡ false → b ≡ false → (a || b) ≡ false
both_false true b one other = absurd cc
both_false false b one other = other

module _ (book : BookView) (request : Request) (most : ℕ) (targets : List (List ℕ)) (same : (ident : List ℕ) → is_wanted targets ident ≡ is_wanted request.targets ident) where
  pub all_answered : request.earliest < book.log.first → if_fits most (inventory_of request (book_point book) (wanted_records targets book.records)) ≡ book_answer book request most
  all_answered below =
      ap (λ (rs : List Record). if_fits most (inventory_of request (book_point book) rs)) (records_alike targets request.targets same book.records)
      ∙ sym (cond-true (eqb request.earliest 0 || ltb request.earliest book.log.first) _ _ (either_true (eqb request.earliest 0) (ltb request.earliest book.log.first) (lt-ltb request.earliest book.log.first below)))

  pub later_answered : 1 ≤ book.log.first → book.log.first ≤ request.earliest
      → if_fits most (told request (book_point book) (wanted_events targets (events_from request.earliest book.log.events)) most) ≡ book_answer book request most
  later_answered begins kept =
      ap (λ (es : List Event). if_fits most (told request (book_point book) es most)) (events_alike targets request.targets same (events_from request.earliest book.log.events))
      ∙ sym (cond-false (eqb request.earliest 0 || ltb request.earliest book.log.first) _ _
      (both_false (eqb request.earliest 0) (ltb request.earliest book.log.first) (ne_eqb request.earliest 0 (λ is. absurd (omega (arith, is, begins, kept)))) (le-ltb request.earliest book.log.first kept)))
