-- A history that grows keeps what was said of it.
use Rattle.std.proofs.Common.{◌≡◌, inl, inr, ℕ, ◌+◌, ◌<◌, ◌≤◌, leb, cond, ◌&&◌, Bool, true, false, List, [], ◌∷◌, ◌++◌, length, get_or, take, Option, Some, None, refl, sym, ap, ◌∙◌, subst, arith, length-append, append-nil}
use Rattle.std.specs.Prelude.{Contains, nat_le}
use Rattle.std.specs.List.{AllByRecursion}
use Rattle.std.proofs.lemmas.Bool.{cases_lt, lt-leb}
use Rattle.std.proofs.lemmas.List.{get_or_append_left, take-append-le}
use Rattle.std.proofs.lemmas.List.Elements.{filter-append}
use Rattle.std.proofs.Math.Seq.{get_or-append_seam}
use Rattle.swima_model.specs.declared.event.Event.{Event}
use Rattle.swima_model.specs.declared.report.Kind.{Kind}
use Rattle.swima_model.specs.declared.report.Point.{Point}
use Rattle.swima_model.specs.declared.report.Report.{Report}
use Rattle.swima_model.specs.declared.report.Report.TheVariants.{Inventory, Events}
use Rattle.swima_model.specs.History.{Epoch, History, LiesIn, Answers, TellsAll, AreNumberedFrom, from_to, live_at}
use Rattle.swima_model.specs.Kinds.{records_of_kind, events_of_kind}
use Rattle.swima_model.specs.Live.{live}
use Rattle.validator_core.specs.Growth.{Asks, GrowthKeepsRight, GrowthKeepsAnswers, HonestGrowthIsLater}
use Rattle.validator_core.specs.Growth.Grows.{by_events, by_epochs}
use Rattle.validator_core.specs.Held.{Held}
use Rattle.validator_core.specs.Right.{RightAt}
use Rattle.validator_core.proofs.Epochs.{honest_epoch}

-- ---- epochs after the last

still_among : (history later : History) (epoch : Epoch) → Contains history epoch → Contains (history ++ later) epoch
still_among history later epoch among =
    (among.0, omega (arith, among.1, length-append history later), get_or_append_left history later epoch among.0 among.1 ∙ among.2)

still_lies : (history later : History) (point : Point) (holds : Epoch → Type 0) → LiesIn history point holds → LiesIn (history ++ later) point holds
still_lies history later point holds lies = record {
  epoch = lies.epoch;
  among = still_among history later lies.epoch lies.among;
  named = lies.named;
  reached = lies.reached;
  holds_so = lies.holds_so;
}

still_answers : (history later : History) (report : Report) → Answers history report → Answers (history ++ later) report
still_answers history later (Inventory kind fulfil id point records) answers = still_lies history later point (λ epoch. records ≡ live_at epoch point.eid kind) answers
still_answers history later (Events kind fulfil id point consulted events) answers =
    still_lies history later point (λ epoch. (consulted ≤ point.eid) × TellsAll epoch kind consulted events) answers

still_right_at : (history later : History) (mirror : Held) (held : Option Point) → RightAt history mirror.kind mirror.records held → RightAt (history ++ later) mirror.kind mirror.records held
still_right_at history later mirror None right = right
still_right_at history later mirror (Some point) right = still_lies history later point (λ epoch. mirror.records ≡ live_at epoch point.eid mirror.kind) right

-- ---- events after those of the last epoch

abbrev grown : Epoch → List Event → Epoch
grown last more = record last { events = last.events ++ more }

-- An epoch is one of the earlier ones, or the last.
record Regained (front : List Epoch) (last : Epoch) (more : List Event) (epoch : Epoch) : Type 0 where
  after : Epoch
  among : Contains (front ++ grown last more ∷ []) after
  number : after.number ≡ epoch.number
  base : after.base ≡ epoch.base
  rest : List Event
  events : after.events ≡ epoch.events ++ rest
  later : AllByRecursion (λ (e : Event). length last.events < e.eid) more → AllByRecursion (λ (e : Event). length epoch.events < e.eid) rest

regained : (front : List Epoch) (last : Epoch) (more : List Event) (epoch : Epoch) → Contains (front ++ last ∷ []) epoch → Regained front last more epoch
regained front last more epoch among = elim (cases_lt among.0 (length front)) [
  | inl lt ↦ record {
    after = epoch;
    among = (
      among.0,
      omega (arith, lt, length-append front (grown last more ∷ [])),
      get_or_append_left front (grown last more ∷ []) epoch among.0 lt ∙ sym (get_or_append_left front (last ∷ []) epoch among.0 lt) ∙ among.2,
    );
    number = refl;
    base = refl;
    rest = [];
    events = sym (append-nil epoch.events);
    later = λ all. tt;
  }
  | inr le ↦
      let place : among.0 ≡ length front = omega (arith, among.1, length-append front (last ∷ [])) in
      let is : last ≡ epoch = sym (get_or-append_seam front last [] epoch) ∙ ap (λ (k : ℕ). get_or (front ++ last ∷ []) k epoch) (sym place) ∙ among.2 in
      record {
        after = grown last more;
        among = (length front, omega (arith, length-append front (grown last more ∷ [])), get_or-append_seam front (grown last more) [] (grown last more));
        number = ap (λ (e : Epoch). e.number) is;
        base = ap (λ (e : Epoch). e.base) is;
        rest = more;
        events = ap (λ (e : Epoch). e.events ++ more) is;
        later = λ all. subst (λ (e : Epoch). AllByRecursion (λ (event : Event). length e.events < event.eid) more) is all;
      }
]

-- What was live at a point still is.
same_live : (front : List Epoch) (last : Epoch) (more : List Event) (epoch : Epoch) (r : Regained front last more epoch) (count : ℕ) (kind : Kind) → count ≤ length epoch.events → live_at r.after count kind ≡ live_at epoch count kind
same_live front last more epoch r count kind le =
    ap (λ (es : List Event). records_of_kind kind (live r.after.base (take count es))) r.events
    ∙ ap (λ (es : List Event). records_of_kind kind (live r.after.base es)) (take-append-le count epoch.events r.rest le)
    ∙ ap (λ rs. records_of_kind kind (live rs (take count epoch.events))) r.base

-- Events above the last that was consulted are not reported up to it.
none_told : (first consulted : ℕ) (events : List Event) → AllByRecursion (λ (e : Event). consulted < e.eid) events → from_to first consulted events ≡ []
none_told first consulted [] above = refl
none_told first consulted (e ∷ later) above =
    let over : leb e.eid consulted ≡ false = lt-leb e.eid consulted above.0 in
    rw over (dropped (leb first e.eid) (from_to first consulted later) (none_told first consulted later above.1))
  where
    dropped : (test : Bool) (kept : List Event) → kept ≡ [] → cond (test && false) (e ∷ kept) kept ≡ []
    dropped true kept is = is
    dropped false kept is = is

-- Events above a number are above a lower one.
still_above : (low high : ℕ) (events : List Event) → low ≤ high → AllByRecursion (λ (e : Event). high < e.eid) events → AllByRecursion (λ (e : Event). low < e.eid) events
still_above low high [] le above = tt
still_above low high (e ∷ later) le above = (omega (arith, le, above.0), still_above low high later le above.1)

same_told : (front : List Epoch) (last : Epoch) (more : List Event) (epoch : Epoch) (r : Regained front last more epoch) (first consulted : ℕ) → AllByRecursion (λ (e : Event). length epoch.events < e.eid) r.rest → consulted ≤ length epoch.events
    → from_to first consulted r.after.events ≡ from_to first consulted epoch.events
same_told front last more epoch r first consulted above le =
    ap (from_to first consulted) r.events
    ∙ filter-append (λ (e : Event). nat_le first e.eid && nat_le e.eid consulted) epoch.events r.rest
    ∙ ap (λ (es : List Event). from_to first consulted epoch.events ++ es) (none_told first consulted r.rest (still_above consulted (length epoch.events) r.rest le above))
    ∙ append-nil (from_to first consulted epoch.events)

-- So is what answered, and what was right.
grown_lies : (front : List Epoch) (last : Epoch) (more : List Event) (point : Point) (before after : Epoch → Type 0) → LiesIn (front ++ last ∷ []) point before
    → ((epoch : Epoch) (r : Regained front last more epoch) → Contains (front ++ grown last more ∷ []) r.after → point.eid ≤ length epoch.events → before epoch → after r.after) → LiesIn (front ++ grown last more ∷ []) point after
grown_lies front last more point before after lies keeps =
    let r = regained front last more lies.epoch lies.among in
    record {
      epoch = r.after;
      among = r.among;
      named = r.number ∙ lies.named;
      reached = omega (arith, lies.reached, ap (λ (es : List Event). length es) r.events, length-append lies.epoch.events r.rest);
      holds_so = keeps lies.epoch r r.among lies.reached lies.holds_so;
    }

grown_tells : (front : List Epoch) (last : Epoch) (more : List Event) (kind : Kind) (consulted : ℕ) (events : List Event) (epoch : Epoch) (r : Regained front last more epoch) → AllByRecursion (λ (e : Event). length epoch.events < e.eid) r.rest → consulted ≤ length epoch.events
    → TellsAll epoch kind consulted events → TellsAll r.after kind consulted events
grown_tells front last more kind consulted [] epoch r above le tells = tt
grown_tells front last more kind consulted (first ∷ others) epoch r above le tells = tells ∙ ap (events_of_kind kind) (sym (same_told front last more epoch r first.eid consulted above le))

grown_answers : (front : List Epoch) (last : Epoch) (more : List Event) (report : Report) → Asks (by_events front last more) report → Answers (front ++ last ∷ []) report → Answers (front ++ grown last more ∷ []) report
grown_answers front last more (Inventory kind fulfil id point records) asks answers =
    grown_lies front last more point (λ epoch. records ≡ live_at epoch point.eid kind) (λ epoch. records ≡ live_at epoch point.eid kind) answers
    (λ epoch r among le is. is ∙ sym (same_live front last more epoch r point.eid kind le))
grown_answers front last more (Events kind fulfil id point consulted events) later answers =
    grown_lies front last more point (λ epoch. (consulted ≤ point.eid) × TellsAll epoch kind consulted events) (λ epoch. (consulted ≤ point.eid) × TellsAll epoch kind consulted events) answers
    (λ epoch r among le tells.
    (tells.0, grown_tells front last more kind consulted events epoch r (r.later later) (omega (arith, tells.0, le)) tells.1))

grown_right_at : (front : List Epoch) (last : Epoch) (more : List Event) (mirror : Held) (held : Option Point) → RightAt (front ++ last ∷ []) mirror.kind mirror.records held → RightAt (front ++ grown last more ∷ []) mirror.kind mirror.records held
grown_right_at front last more mirror None right = right
grown_right_at front last more mirror (Some point) right =
    grown_lies front last more point (λ epoch. mirror.records ≡ live_at epoch point.eid mirror.kind) (λ epoch. mirror.records ≡ live_at epoch point.eid mirror.kind) right
    (λ epoch r among le is. is ∙ sym (same_live front last more epoch r point.eid mirror.kind le))

-- Numbered events after others are numbered on.
numbered_rest : (n : ℕ) (xs ys : List Event) → AreNumberedFrom n (xs ++ ys) → AreNumberedFrom (n + length xs) ys
numbered_rest n [] ys are =
    let e : n + 0 ≡ n = omega arith in
    subst (λ (k : ℕ). AreNumberedFrom k ys) (sym e) are
numbered_rest n (x ∷ xs) ys are =
    let e : n + 1 + length xs ≡ n + length (x ∷ xs) = omega arith in
    subst (λ (k : ℕ). AreNumberedFrom k ys) e (numbered_rest (n + 1) xs ys are.1)

-- So they are above what is below the first.
numbered_above : (low n : ℕ) (events : List Event) → low < n → AreNumberedFrom n events → AllByRecursion (λ (e : Event). low < e.eid) events
numbered_above low n [] lt are = tt
numbered_above low n (e ∷ later) lt are = (omega (arith, lt, are.0), numbered_above low (n + 1) later (omega (arith, lt)) are.1)

pub growth_keeps_right : GrowthKeepsRight
growth_keeps_right _ _ (by_events front last more) mirror right = grown_right_at front last more mirror mirror.point right
growth_keeps_right _ _ (by_epochs history later) mirror right = still_right_at history later mirror mirror.point right

pub growth_keeps_answers : GrowthKeepsAnswers
growth_keeps_answers _ _ (by_events front last more) report asks answers = grown_answers front last more report asks answers
growth_keeps_answers _ _ (by_epochs history later) report asks answers = still_answers history later report answers

pub honest_growth_is_later : HonestGrowthIsLater
honest_growth_is_later _ _ (by_events front last more) honest =
    let among : Contains (front ++ grown last more ∷ []) (grown last more) =
    (length front, omega (arith, length-append front (grown last more ∷ [])), get_or-append_seam front (grown last more) [] (grown last more)) in
    let eids = (honest_epoch (front ++ grown last more ∷ []) (grown last more) honest among).eids in
    numbered_above (length last.events) (1 + length last.events) more (omega arith) (numbered_rest 1 last.events more eids)
honest_growth_is_later _ _ (by_epochs history later) honest = tt
