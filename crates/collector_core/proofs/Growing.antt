-- What answered from the history of a chronicle does so after further entries.
use Rattle.std.proofs.Common.{◌≡◌, inl, inr, ℕ, ◌+◌, ◌<◌, ◌≤◌, ◌&&◌, leb, List, [], ◌∷◌, ◌++◌, length, take, refl, sym, ap, ◌∙◌, subst, append_assoc, arith, length-append}
use Rattle.std.specs.Prelude.{Contains, fold, nat_le}
use Rattle.std.proofs.lemmas.Bool.{lt-leb}
use Rattle.std.proofs.lemmas.List.{append-nil, take-append-le}
use Rattle.std.proofs.lemmas.List.Elements.{All-contains, Contains-append_left, Contains-push_cases, filter-append}
use Rattle.std.proofs.Math.Seq.{get_or-append_seam}
use Rattle.swima_model.specs.declared.event.Event.{Event}
use Rattle.swima_model.specs.declared.record.Record.{Record}
use Rattle.swima_model.specs.declared.report.Kind.{Kind}
use Rattle.swima_model.specs.declared.report.Point.{Point}
use Rattle.swima_model.specs.declared.report.Report.{Report}
use Rattle.swima_model.specs.declared.report.Report.TheVariants.{Inventory, Events}
use Rattle.swima_model.specs.History.{AreNumberedFrom, Answers, Epoch, History, IsHonest, IsHonestEpoch, LiesIn, TellsAll, from_to, live_at}
use Rattle.swima_model.specs.Kinds.{events_of_kind, records_of_kind}
use Rattle.swima_model.specs.Live.{live}
use Rattle.collector_core.specs.declared.chronicle.Entry.{Entry}
use Rattle.collector_core.specs.declared.chronicle.Entry.TheVariants as entry
use Rattle.collector_core.specs.Chronicle.{current, epoch_after, epochs_from, extended, first_epoch, history}
use Rattle.collector_core.specs.Meaning.{AnswersStay}
use Rattle.collector_core.proofs.Answered.{not_high}
use Rattle.collector_core.proofs.Chronicles.{history_is, past, past_from}

-- ---- the longer history

epochs_append : (epoch : Epoch) (xs ys : List Entry) → epochs_from epoch (xs ++ ys) ≡ past_from epoch xs ++ epochs_from (fold epoch_after epoch xs) ys
epochs_append epoch [] ys = refl
epochs_append epoch (entry.Event e ∷ xs) ys = epochs_append (epoch_after epoch (entry.Event e)) xs ys
epochs_append epoch (entry.Epoch n ∷ xs) ys = ap (λ (h : History). epoch ∷ h) (epochs_append (epoch_after epoch (entry.Epoch n)) xs ys)
epochs_append epoch (entry.Trim k ∷ xs) ys = epochs_append epoch xs ys

-- The epoch with further events.
abbrev grown : Epoch → List Event → Epoch
grown epoch more = record epoch { events = epoch.events ++ more }

ungrown : (epoch : Epoch) (behind : History) → epoch ∷ behind ≡ grown epoch [] ∷ behind
ungrown epoch behind = ap (λ (es : List Event). record epoch { events = es } ∷ behind) (sym (append-nil epoch.events))

first_grown : (epoch : Epoch) (xs : List Entry) → (more : List Event) × (behind : History) × (epochs_from epoch xs ≡ grown epoch more ∷ behind)
first_grown epoch [] = ([], [], ungrown epoch [])
first_grown epoch (entry.Event e ∷ xs) =
    let further = first_grown (epoch_after epoch (entry.Event e)) xs in
    (e ∷ further.0, further.1, further.2 ∙ ap (λ (es : List Event). record epoch { events = es } ∷ further.1) (append_assoc epoch.events (e ∷ []) further.0))
first_grown epoch (entry.Epoch n ∷ xs) = ([], epochs_from (epoch_after epoch (entry.Epoch n)) xs, ungrown epoch (epochs_from (epoch_after epoch (entry.Epoch n)) xs))
first_grown epoch (entry.Trim k ∷ xs) = first_grown epoch xs

-- ---- its epochs

-- An epoch is found again in a later history, perhaps with further events.
record Regained (later : History) (epoch : Epoch) : Type 0 where
  after : Epoch
  among : Contains later after
  number : after.number ≡ epoch.number
  base : after.base ≡ epoch.base
  rest : List Event
  events : after.events ≡ epoch.events ++ rest

regained : (front behind : History) (last : Epoch) (more : List Event) (epoch : Epoch) → Contains (front ++ last ∷ []) epoch → Regained (front ++ grown last more ∷ behind) epoch
regained front behind last more epoch among = elim (Contains-push_cases front last epoch among) [
  | inl before ↦ record {
    after = epoch;
    among = Contains-append_left front (grown last more ∷ behind) epoch before;
    number = refl;
    base = refl;
    rest = [];
    events = sym (append-nil epoch.events);
  }
  | inr is ↦ record {
    after = grown last more;
    among = (length front, omega (arith, length-append front (grown last more ∷ behind)), get_or-append_seam front (grown last more) behind (grown last more));
    number = ap (λ (e : Epoch). e.number) is;
    base = ap (λ (e : Epoch). e.base) is;
    rest = more;
    events = ap (λ (e : Epoch). e.events ++ more) is;
  }
]

-- What was live at a point still is.
same_live : (later : History) (epoch : Epoch) (r : Regained later epoch) (count : ℕ) (kind : Kind) → count ≤ length epoch.events → live_at r.after count kind ≡ live_at epoch count kind
same_live later epoch r count kind within =
    ap (λ (es : List Event). records_of_kind kind (live r.after.base (take count es))) r.events
    ∙ ap (λ (es : List Event). records_of_kind kind (live r.after.base es)) (take-append-le count epoch.events r.rest within)
    ∙ ap (λ (rs : List Record). records_of_kind kind (live rs (take count epoch.events))) r.base

-- Numbered events after a place are not reported up to it.
numbered_rest : (n : ℕ) (xs ys : List Event) → AreNumberedFrom n (xs ++ ys) → AreNumberedFrom (n + length xs) ys
numbered_rest n [] ys are =
    let e : n ≡ n + 0 = omega arith in
    subst (λ (k : ℕ). AreNumberedFrom k ys) e are
numbered_rest n (x ∷ xs) ys are =
    let e : n + 1 + length xs ≡ n + length (x ∷ xs) = omega arith in
    subst (λ (k : ℕ). AreNumberedFrom k ys) e (numbered_rest (n + 1) xs ys are.1)

none_told : (first consulted n : ℕ) (events : List Event) → AreNumberedFrom n events → consulted < n → from_to first consulted events ≡ []
none_told first consulted n [] are below = refl
none_told first consulted n (e ∷ later) are below =
    not_high (leb first e.eid) (leb e.eid consulted) e (from_to first consulted later) (lt-leb e.eid consulted (omega (arith, are.0, below)))
    ∙ none_told first consulted (n + 1) later are.1 (omega (arith, below))

same_told : (later : History) (epoch : Epoch) (r : Regained later epoch) (first consulted : ℕ) → AreNumberedFrom 1 r.after.events → consulted ≤ length epoch.events → from_to first consulted r.after.events ≡ from_to first consulted epoch.events
same_told later epoch r first consulted are within =
    let rest = numbered_rest 1 epoch.events r.rest (subst (AreNumberedFrom 1) r.events are) in
    ap (from_to first consulted) r.events
    ∙ filter-append (λ (e : Event). nat_le first e.eid && nat_le e.eid consulted) epoch.events r.rest
    ∙ ap (λ (es : List Event). from_to first consulted epoch.events ++ es) (none_told first consulted (1 + length epoch.events) r.rest rest (omega (arith, within)))
    ∙ append-nil (from_to first consulted epoch.events)

still_tells : (later : History) (kind : Kind) (consulted : ℕ) (events : List Event) (epoch : Epoch) (r : Regained later epoch) → AreNumberedFrom 1 r.after.events → consulted ≤ length epoch.events
    → TellsAll epoch kind consulted events → TellsAll r.after kind consulted events
still_tells later kind consulted [] epoch r are within tells = tt
still_tells later kind consulted (first ∷ others) epoch r are within tells = tells ∙ ap (events_of_kind kind) (sym (same_told later epoch r first.eid consulted are within))

-- ---- its answers

module _ (front behind : History) (last : Epoch) (more : List Event) (honest : IsHonest (front ++ grown last more ∷ behind)) where
  still_lies : (point : Point) (holds : Epoch → Type 0) → LiesIn (front ++ last ∷ []) point holds
      → ((epoch : Epoch) (r : Regained (front ++ grown last more ∷ behind) epoch) → point.eid ≤ length epoch.events → holds epoch → holds r.after) → LiesIn (front ++ grown last more ∷ behind) point holds
  still_lies point holds lies keeps =
      let r = regained front behind last more lies.epoch lies.among in
      record {
        epoch = r.after;
        among = r.among;
        named = r.number ∙ lies.named;
        reached = omega (arith, lies.reached, ap (λ (es : List Event). length es) r.events, length-append lies.epoch.events r.rest);
        holds_so = keeps lies.epoch r lies.reached lies.holds_so;
      }

  still_answers : (report : Report) → Answers (front ++ last ∷ []) report → Answers (front ++ grown last more ∷ behind) report
  still_answers (Inventory kind fulfil id point records) answers =
      still_lies point (λ epoch. records ≡ live_at epoch point.eid kind) answers (λ epoch r within is. is ∙ sym (same_live (front ++ grown last more ∷ behind) epoch r point.eid kind within))
  still_answers (Events kind fulfil id point consulted events) answers =
      still_lies point (λ epoch. (consulted ≤ point.eid) × TellsAll epoch kind consulted events) answers
      (λ epoch r within tells.
      let is : IsHonestEpoch r.after = All-contains IsHonestEpoch (front ++ grown last more ∷ behind) r.after honest.epochs r.among in
      (tells.0, still_tells (front ++ grown last more ∷ behind) kind consulted events epoch r is.eids (omega (arith, tells.0, within)) tells.1))

pub answers_stay : AnswersStay
answers_stay chronicle further report legal answers =
    let more = first_grown (current chronicle) further in
    let is : history (extended chronicle further) ≡ past chronicle ++ grown (current chronicle) more.0 ∷ more.1 =
    epochs_append (first_epoch chronicle.start) chronicle.entries further ∙ ap (λ (h : History). past chronicle ++ h) more.2 in
    subst (λ (h : History). Answers h report) (sym is)
    (still_answers (past chronicle) more.1 (current chronicle) more.0 (subst IsHonest is legal.honest) report (subst (λ (h : History). Answers h report) (history_is chronicle) answers))
