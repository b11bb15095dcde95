-- What holds at each legal chronicle, since it held at the start and each entry keeps it.
use Rattle.std.proofs.Common.{◌≡◌, ◌⊎◌, inl, inr, ℕ, ◌+◌, ◌<◌, ◌≤◌, ◌&&◌, ◌||◌, Bool, true, false, not, ltb, List, [], ◌∷◌, ◌++◌, length, refl, sym, ap, ◌∙◌, subst, append_assoc, arith, length-append, eq-eqb, ltb-true}
use Rattle.std.specs.Prelude.{All, fold, max}
use Rattle.std.specs.List.{list_any}
use Rattle.std.proofs.lemmas.List.{append-nil}
use Rattle.std.proofs.lemmas.List.Sums.{fold-append}
use Rattle.std.proofs.lemmas.List.Elements.{All-push, All-nil}
use Rattle.wire_base.specs.Stamp.{IsStamp}
use Rattle.swima_model.specs.declared.event.Event.{Event}
use Rattle.swima_model.specs.History.{AreNumberedFrom, Epoch}
use Rattle.collector_core.specs.declared.chronicle.Entry.{Entry}
use Rattle.collector_core.specs.declared.chronicle.Entry.TheVariants as entry
use Rattle.collector_core.specs.Answering.{is_later, is_wanted}
use Rattle.collector_core.specs.Chronicle.{Chronicle, Start, current, epoch_after, extended, first_epoch, first_kept, last_eid, trim_after}
use Rattle.collector_core.specs.Legal.{IsLegal, MayFollow}
use Rattle.collector_core.specs.Meaning.{LastRises, MovedIsLater}
use Rattle.collector_core.proofs.Chronicles.{AllFollow, Rising, current_honest, current_more, follow_on, number_rises, rising, trims_more}

abbrev pub at : Start → List Entry → Chronicle
at start entries = record { start = start; entries = entries }

module _ (start : Start) (P : Chronicle → Type 0) (step : (before : List Entry) (x : Entry) → P (at start before) → MayFollow (at start before) x → P (at start (before ++ x ∷ []))) where
  pub along : (before xs : List Entry) → AllFollow start before xs → P (at start before) → P (at start (before ++ xs))
  along before [] follow is = subst (λ (zs : List Entry). P (at start zs)) (sym (append-nil before)) is
  along before (x ∷ xs) follow is =
      subst (λ (zs : List Entry). P (at start zs)) (append_assoc before (x ∷ []) xs)
      (along (before ++ x ∷ []) xs (follow_on start before x xs follow) (step before x is (follow before x xs refl)))

-- ---- the moments of events are stamps

stamped_step : (start : Start) (before : List Entry) (x : Entry) → All (λ (e : Event). IsStamp e.stamp) (current (at start before)).events → MayFollow (at start before) x
    → All (λ (e : Event). IsStamp e.stamp) (current (at start (before ++ x ∷ []))).events
stamped_step start before (entry.Event event) is may =
    subst (λ (epoch : Epoch). All (λ (e : Event). IsStamp e.stamp) epoch.events) (sym (current_more (at start before) (entry.Event event)))
    (All-push (λ (e : Event). IsStamp e.stamp) (current (at start before)).events event is may.stamp)
stamped_step start before (entry.Epoch number) is may =
    subst (λ (epoch : Epoch). All (λ (e : Event). IsStamp e.stamp) epoch.events) (sym (current_more (at start before) (entry.Epoch number))) (All-nil (λ (e : Event). IsStamp e.stamp))
stamped_step start before (entry.Trim first) is may =
    subst (λ (epoch : Epoch). All (λ (e : Event). IsStamp e.stamp) epoch.events) (sym (current_more (at start before) (entry.Trim first))) is

pub stamped : (chronicle : Chronicle) → IsLegal chronicle → All (λ (e : Event). IsStamp e.stamp) (current chronicle).events
stamped chronicle legal =
    along chronicle.start (λ (k : Chronicle). All (λ (e : Event). IsStamp e.stamp) (current k).events) (stamped_step chronicle.start) [] chronicle.entries legal.follow (All-nil (λ (e : Event). IsStamp e.stamp))

-- ---- the first that is kept is at most 1 above the last

kept_step : (start : Start) (before : List Entry) (x : Entry) → fold trim_after 1 before ≤ last_eid (at start before) + 1 → MayFollow (at start before) x
    → fold trim_after 1 (before ++ x ∷ []) ≤ last_eid (at start (before ++ x ∷ [])) + 1
kept_step start before (entry.Event event) is may =
    let trims : fold trim_after 1 (before ++ entry.Event event ∷ []) ≡ fold trim_after 1 before = trims_more (at start before) (entry.Event event) in
    let last : last_eid (at start (before ++ entry.Event event ∷ [])) ≡ last_eid (at start before) + 1 =
    ap (λ (epoch : Epoch). length epoch.events) (current_more (at start before) (entry.Event event)) ∙ length-append (current (at start before)).events (event ∷ []) in
    omega (arith, trims, last, is)
kept_step start before (entry.Epoch number) is may =
    let trims : fold trim_after 1 (before ++ entry.Epoch number ∷ []) ≡ 1 = trims_more (at start before) (entry.Epoch number) in
    omega (arith, trims)
kept_step start before (entry.Trim first) is may =
    let trims : fold trim_after 1 (before ++ entry.Trim first ∷ []) ≡ max (fold trim_after 1 before) first = trims_more (at start before) (entry.Trim first) in
    let last : last_eid (at start (before ++ entry.Trim first ∷ [])) ≡ last_eid (at start before) = ap (λ (epoch : Epoch). length epoch.events) (current_more (at start before) (entry.Trim first)) in
    omega (arith, trims, last, is, may)

pub kept_within : (chronicle : Chronicle) → IsLegal chronicle → first_kept chronicle ≤ last_eid chronicle + 1
kept_within chronicle legal =
    let trims : fold trim_after 1 chronicle.entries ≤ last_eid chronicle + 1 =
    along chronicle.start (λ (k : Chronicle). fold trim_after 1 k.entries ≤ last_eid k + 1) (kept_step chronicle.start) [] chronicle.entries legal.follow (omega arith) in
    omega (arith, trims, legal.start.cap.0)

-- ---- what has moved is after

or_cases : (a b : Bool) → (a || b) ≡ true → (a ≡ true) ⊎ (b ≡ true)
or_cases true b is = inl refl
or_cases false b is = inr is

and_left : (a b : Bool) → (a && b) ≡ true → a ≡ true
and_left true b is = refl
and_left false b is = absurd cc

one_of_two : (a b c : Bool) → (a || b || c) ≡ true → a ≡ false → (b ≡ true) ⊎ (c ≡ true)
one_of_two true b c is none = absurd cc
one_of_two false true c is none = inl refl
one_of_two false false c is none = inr is

later_within : (after n : ℕ) (targets : List (List ℕ)) (events : List Event) → AreNumberedFrom n events → list_any (is_later after targets) events ≡ true → after + 1 < n + length events
later_within after n targets [] are is = absurd cc
later_within after n targets (e ∷ later) are is = elim (or_cases (is_later after targets e) (list_any (is_later after targets) later) is) [
  | inl here ↦
      let above : after < e.eid = ltb-true after e.eid (and_left (ltb after e.eid) (is_wanted targets e.subject.content.ident) here) in
      omega (arith, are.0, above)
  | inr there ↦ omega (arith, later_within after (n + 1) targets later are.1 there)
]

pub moved_is_later : MovedIsLater
moved_is_later chronicle after targets legal same moved =
    elim (one_of_two _ (ltb (after.eid + 1) (first_kept chronicle)) (list_any (is_later after.eid targets) (current chronicle).events) moved (ap not (eq-eqb after.epoch (current chronicle).number same))) [
      | inl dropped ↦
          let below : after.eid + 1 < first_kept chronicle = ltb-true (after.eid + 1) (first_kept chronicle) dropped in
          omega (arith, below, kept_within chronicle legal)
      | inr later ↦ omega (arith, later_within after.eid 1 targets (current chronicle).events (current_honest chronicle legal).eids later)
    ]

-- ---- in one epoch the last event identifier does not fall

epoch_grows : (epoch : Epoch) (xs : List Entry) → Rising epoch xs → (fold epoch_after epoch xs).number ≡ epoch.number → length epoch.events ≤ length (fold epoch_after epoch xs).events
epoch_grows epoch [] up same = omega arith
epoch_grows epoch (entry.Event e ∷ xs) up same = omega (arith, epoch_grows (epoch_after epoch (entry.Event e)) xs up same, length-append epoch.events (e ∷ []))
epoch_grows epoch (entry.Epoch n ∷ xs) up same = absurd (omega (arith, up.0, number_rises (epoch_after epoch (entry.Epoch n)) xs up.1, same))
epoch_grows epoch (entry.Trim k ∷ xs) up same = epoch_grows epoch xs up same

pub last_rises : LastRises
last_rises chronicle further legal same =
    let behind : current (extended chronicle further) ≡ fold epoch_after (current chronicle) further = fold-append epoch_after (first_epoch chronicle.start) chronicle.entries further in
    let up = rising chronicle.start chronicle.entries further legal.follow in
    let long : last_eid (extended chronicle further) ≡ length (fold epoch_after (current chronicle) further).events = ap (λ (epoch : Epoch). length epoch.events) behind in
    omega (arith, long, epoch_grows (current chronicle) further up (sym (ap (λ (epoch : Epoch). epoch.number) behind) ∙ same))
