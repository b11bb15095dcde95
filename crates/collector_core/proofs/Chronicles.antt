-- What an entry after a chronicle changes, and that legal chronicles stay honest.
use Rattle.std.proofs.Common.{◌≡◌, ◌≢◌, ◌⊎◌, inl, inr, ℕ, ◌+◌, ◌<◌, ◌≤◌, ◌^◌, false, List, [], ◌∷◌, ◌++◌, length, get_or, refl, sym, ap, ◌∙◌, subst, append_assoc, arith, length-append}
use Rattle.std.specs.Prelude.{All, AllPairs, fold, max}
use Rattle.std.proofs.lemmas.Bool.{cases_lt}
use Rattle.std.proofs.lemmas.List.{get_or_append_left, append-nil, take_all}
use Rattle.std.proofs.Math.Seq.{get_or-append_seam}
use Rattle.std.proofs.lemmas.List.Sums.{fold-append}
use Rattle.std.proofs.lemmas.List.Elements.{All-push, All-cons, All-nil}
use Rattle.std.proofs.lemmas.List.Quantifiers.{all_pairs_push}
use Rattle.swima_model.specs.declared.event.Event.{Event}
use Rattle.swima_model.specs.History.{Epoch, History, IsHonest, IsHonestEpoch, FitsBehind, contradicts}
use Rattle.swima_model.specs.Live.{live}
use Rattle.swima_model.specs.Size.{are_large}
use Rattle.swima_model.proofs.Living.{live_rises}
use Rattle.swima_model.proofs.Honest.{live_fits}
use Rattle.event_log.proofs.Pushing.{numbered_push}
use Rattle.collector_core.specs.declared.chronicle.Entry.{Entry}
use Rattle.collector_core.specs.declared.chronicle.Entry.TheVariants as entry
use Rattle.collector_core.specs.Chronicle.{Start, Chronicle, extended, first_epoch, epoch_after, current, epochs_from, history, live_now, last_eid, trim_after, created, created_by, next_id}
use Rattle.collector_core.specs.Legal.{IsLegal, MayFollow}

-- ---- lists with one item more

pub last_cases : {X : Type 0} (xs : List X) (x : X) (before : List X) (y : X) (after : List X) → xs ++ x ∷ [] ≡ before ++ y ∷ after
    → ((before ≡ xs) × (y ≡ x)) ⊎ ((rest : List X) × (xs ≡ before ++ y ∷ rest))
last_cases [] x [] y after e = inl (refl, cc)
last_cases [] x (b ∷ []) y after e = absurd cc
last_cases [] x (b ∷ c ∷ before) y after e = absurd cc
last_cases (z ∷ zs) x [] y after e = inr (zs, cc)
last_cases (z ∷ zs) x (b ∷ before) y after e =
    let head : z ≡ b = cc in
    let rest : zs ++ x ∷ [] ≡ before ++ y ∷ after = cc in
    elim (last_cases zs x before y after rest) [
      | inl here ↦ inl (cc, here.1)
      | inr there ↦ inr (there.0, cc)
    ]

-- ---- the current epoch and the numbers

pub current_more : (chronicle : Chronicle) (x : Entry) → current (extended chronicle (x ∷ [])) ≡ epoch_after (current chronicle) x
current_more chronicle x = fold-append epoch_after (first_epoch chronicle.start) chronicle.entries (x ∷ [])

pub trims_more : (chronicle : Chronicle) (x : Entry) → fold trim_after 1 (chronicle.entries ++ x ∷ []) ≡ trim_after (fold trim_after 1 chronicle.entries) x
trims_more chronicle x = fold-append trim_after 1 chronicle.entries (x ∷ [])

created_append : (xs ys : List Entry) → created (xs ++ ys) ≡ created xs ++ created ys
created_append [] ys = refl
created_append (entry.Event e ∷ xs) ys =
    ap (λ (ids : List ℕ). created_by e.action e.subject.id ++ ids) (created_append xs ys)
    ∙ sym (append_assoc (created_by e.action e.subject.id) (created xs) (created ys))
created_append (entry.Epoch n ∷ xs) ys = created_append xs ys
created_append (entry.Trim k ∷ xs) ys = created_append xs ys

pub next_more : (chronicle : Chronicle) (x : Entry) → next_id (extended chronicle (x ∷ [])) ≡ fold max (fold max (length chronicle.start.contents) (created chronicle.entries)) (created (x ∷ [])) + 1
next_more chronicle x =
    ap (λ (ids : List ℕ). fold max (length chronicle.start.contents) ids + 1) (created_append chronicle.entries (x ∷ []))
    ∙ ap (λ (n : ℕ). n + 1) (fold-append max (length chronicle.start.contents) (created chronicle.entries) (created (x ∷ [])))

-- ---- past epochs

abbrev pub past_from : Epoch → List Entry → History
past_from epoch [] = []
past_from epoch (entry.Event event ∷ later) = past_from (epoch_after epoch (entry.Event event)) later
past_from epoch (entry.Epoch number ∷ later) = epoch ∷ past_from (epoch_after epoch (entry.Epoch number)) later
past_from epoch (entry.Trim first ∷ later) = past_from epoch later

-- The epochs that an entry ends.
abbrev pub ended : Epoch → Entry → History
ended epoch (entry.Event event) = []
ended epoch (entry.Epoch number) = epoch ∷ []
ended epoch (entry.Trim first) = []

pub past_and_current : (epoch : Epoch) (xs : List Entry) → epochs_from epoch xs ≡ past_from epoch xs ++ fold epoch_after epoch xs ∷ []
past_and_current epoch [] = refl
past_and_current epoch (entry.Event e ∷ xs) = past_and_current (epoch_after epoch (entry.Event e)) xs
past_and_current epoch (entry.Epoch n ∷ xs) = ap (λ (h : History). epoch ∷ h) (past_and_current (epoch_after epoch (entry.Epoch n)) xs)
past_and_current epoch (entry.Trim k ∷ xs) = past_and_current epoch xs

past_more : (epoch : Epoch) (xs : List Entry) (x : Entry) → past_from epoch (xs ++ x ∷ []) ≡ past_from epoch xs ++ ended (fold epoch_after epoch xs) x
past_more epoch [] (entry.Event e) = refl
past_more epoch [] (entry.Epoch n) = refl
past_more epoch [] (entry.Trim k) = refl
past_more epoch (entry.Event e ∷ xs) x = past_more (epoch_after epoch (entry.Event e)) xs x
past_more epoch (entry.Epoch n ∷ xs) x = ap (λ (h : History). epoch ∷ h) (past_more (epoch_after epoch (entry.Epoch n)) xs x)
past_more epoch (entry.Trim k ∷ xs) x = past_more epoch xs x

abbrev pub past : Chronicle → History
past chronicle = past_from (first_epoch chronicle.start) chronicle.entries

pub history_is : (chronicle : Chronicle) → history chronicle ≡ past chronicle ++ current chronicle ∷ []
history_is chronicle = past_and_current (first_epoch chronicle.start) chronicle.entries

pub history_more : (chronicle : Chronicle) (x : Entry) → history (extended chronicle (x ∷ [])) ≡ (past chronicle ++ ended (current chronicle) x) ++ epoch_after (current chronicle) x ∷ []
history_more chronicle x =
    history_is (extended chronicle (x ∷ []))
    ∙ ap (λ (h : History). h ++ current (extended chronicle (x ∷ [])) ∷ []) (past_more (first_epoch chronicle.start) chronicle.entries x)
    ∙ ap (λ (e : Epoch). (past chronicle ++ ended (current chronicle) x) ++ e ∷ []) (current_more chronicle x)

-- ---- numbers of epochs rise

abbrev pub Rising : Epoch → List Entry → Type 0
Rising epoch [] = Unit {0}
Rising epoch (entry.Event event ∷ later) = Rising (epoch_after epoch (entry.Event event)) later
Rising epoch (entry.Epoch number ∷ later) = (epoch.number < number) × Rising (epoch_after epoch (entry.Epoch number)) later
Rising epoch (entry.Trim first ∷ later) = Rising epoch later

abbrev pub AllFollow : Start → List Entry → List Entry → Type 0
AllFollow start front rest = (before : List Entry) (x : Entry) (after : List Entry) → front ++ rest ≡ before ++ x ∷ after → MayFollow (record { start = start; entries = before }) x

pub follow_on : (start : Start) (front : List Entry) (x : Entry) (xs : List Entry) → AllFollow start front (x ∷ xs) → AllFollow start (front ++ x ∷ []) xs
follow_on start front x xs follow before y after e = follow before y after (sym (append_assoc front (x ∷ []) xs) ∙ e)

pub rising : (start : Start) (front xs : List Entry) → AllFollow start front xs → Rising (fold epoch_after (first_epoch start) front) xs
rising start front [] follow = tt
rising start front (entry.Event e ∷ xs) follow =
    subst (λ (epoch : Epoch). Rising epoch xs) (fold-append epoch_after (first_epoch start) front (entry.Event e ∷ []))
    (rising start (front ++ entry.Event e ∷ []) xs (follow_on start front (entry.Event e) xs follow))
rising start front (entry.Epoch n ∷ xs) follow = (
  (follow front (entry.Epoch n) xs refl).0,
  subst (λ (epoch : Epoch). Rising epoch xs) (fold-append epoch_after (first_epoch start) front (entry.Epoch n ∷ []))
      (rising start (front ++ entry.Epoch n ∷ []) xs (follow_on start front (entry.Epoch n) xs follow)),
)
rising start front (entry.Trim k ∷ xs) follow =
    subst (λ (epoch : Epoch). Rising epoch xs) (fold-append epoch_after (first_epoch start) front (entry.Trim k ∷ []))
    (rising start (front ++ entry.Trim k ∷ []) xs (follow_on start front (entry.Trim k) xs follow))

pub number_rises : (epoch : Epoch) (xs : List Entry) → Rising epoch xs → epoch.number ≤ (fold epoch_after epoch xs).number
number_rises epoch [] up = omega arith
number_rises epoch (entry.Event e ∷ xs) up = number_rises (epoch_after epoch (entry.Event e)) xs up
number_rises epoch (entry.Epoch n ∷ xs) up = omega (arith, up.0, number_rises (epoch_after epoch (entry.Epoch n)) xs up.1)
number_rises epoch (entry.Trim k ∷ xs) up = number_rises epoch xs up

past_below : (epoch : Epoch) (xs : List Entry) → Rising epoch xs → All (λ (e : Epoch). e.number < (fold epoch_after epoch xs).number) (past_from epoch xs)
past_below epoch [] up = All-nil (λ (e : Epoch). e.number < epoch.number)
past_below epoch (entry.Event e ∷ xs) up = past_below (epoch_after epoch (entry.Event e)) xs up
past_below epoch (entry.Epoch n ∷ xs) up =
    All-cons (λ (e : Epoch). e.number < (fold epoch_after (epoch_after epoch (entry.Epoch n)) xs).number) epoch (past_from (epoch_after epoch (entry.Epoch n)) xs)
    (omega (arith, up.0, number_rises (epoch_after epoch (entry.Epoch n)) xs up.1)) (past_below (epoch_after epoch (entry.Epoch n)) xs up.1)
past_below epoch (entry.Trim k ∷ xs) up = past_below epoch xs up

pub numbers_below : (chronicle : Chronicle) → IsLegal chronicle → All (λ (e : Epoch). e.number < (current chronicle).number) (past chronicle)
numbers_below chronicle legal = past_below (first_epoch chronicle.start) chronicle.entries (rising chronicle.start [] chronicle.entries legal.follow)

-- ---- honest epochs

-- An event that fits makes an honest epoch of an honest one.
pub grown_honest : (epoch : Epoch) (e : Event) → IsHonestEpoch epoch → e.eid ≡ length epoch.events + 1 → e.eid < 2 ^ 32
    → contradicts (live epoch.base epoch.events) e ≡ false → are_large (live epoch.base (epoch.events ++ e ∷ [])) ≡ false → IsHonestEpoch (epoch_after epoch (entry.Event e))
grown_honest epoch e honest next few agrees fits = record {
  numbered = honest.numbered;
  rising = honest.rising;
  begins = honest.begins;
  eids = numbered_push 1 epoch.events e honest.eids (omega (arith, next));
  few = omega (arith, next, few, length-append epoch.events (e ∷ []));
  fit = λ before event after split. elim (last_cases epoch.events e before event after split) [
    | inl here ↦
        subst (λ (bs : List Event). FitsBehind epoch.base bs event) (sym here.0)
        (subst (λ (x : Event). FitsBehind epoch.base epoch.events x) (sym here.1) (record { agrees = agrees; fits = fits }))
    | inr there ↦ honest.fit before event there.0 there.1
  ];
}

-- What is live begins an honest epoch.
pub begun_honest : (epoch : Epoch) (number : ℕ) → IsHonestEpoch epoch → 0 < number → IsHonestEpoch (epoch_after epoch (entry.Epoch number))
begun_honest epoch number honest some = record {
  numbered = some;
  rising = live_rises epoch.base epoch.events honest.rising;
  begins = ap (λ (es : List Event). are_large (live epoch.base es)) (sym (take_all (length epoch.events) epoch.events (omega arith))) ∙ live_fits epoch (length epoch.events) honest (omega arith);
  eids = tt;
  few = omega arith;
  fit = λ before event after split. absurd (none before event after split);
}
  where
    none : (before : List Event) (event : Event) (after : List Event) → [] ≡ before ++ event ∷ after → ⊥
    none [] event after e = cc
    none (b ∷ before) event after e = cc

-- ---- honest histories

module _ (past : History) (epoch : Epoch) (honest : IsHonest (past ++ epoch ∷ [])) where
  at_front : (k : ℕ) (d : Epoch) → k < length past → get_or (past ++ epoch ∷ []) k d ≡ get_or past k d
  at_front k d lt = get_or_append_left past (epoch ∷ []) d k lt

  pub front_honest : All IsHonestEpoch past
  front_honest k d lt = subst IsHonestEpoch (at_front k d lt) (honest.epochs k d (omega (arith, lt, length-append past (epoch ∷ []))))

  pub last_honest : IsHonestEpoch epoch
  last_honest = subst IsHonestEpoch (get_or-append_seam past epoch [] epoch) (honest.epochs (length past) epoch (omega (arith, length-append past (epoch ∷ []))))

  pub front_distinct : AllPairs (λ (one other : Epoch). one.number ≢ other.number) past
  front_distinct i j d lt within same =
      honest.distinct i j d lt (omega (arith, within, length-append past (epoch ∷ [])))
      (ap (λ (e : Epoch). e.number) (at_front i d (omega (arith, lt, within))) ∙ same ∙ sym (ap (λ (e : Epoch). e.number) (at_front j d within)))

  last_distinct : (k : ℕ) (d : Epoch) → k < length past → (get_or past k d).number ≢ epoch.number
  last_distinct k d lt same =
      honest.distinct k (length past) d lt (omega (arith, length-append past (epoch ∷ [])))
      (ap (λ (e : Epoch). e.number) (at_front k d lt) ∙ same ∙ sym (ap (λ (e : Epoch). e.number) (get_or-append_seam past epoch [] d)))

  -- The last epoch may be another of its number.
  pub exchanged : (other : Epoch) → IsHonestEpoch other → other.number ≡ epoch.number → IsHonest (past ++ other ∷ [])
  exchanged other is number = record {
    epochs = All-push IsHonestEpoch past other front_honest is;
    distinct = all_pairs_push (λ (one two : Epoch). one.number ≢ two.number) past other front_distinct (λ k d lt same. last_distinct k d lt (same ∙ number));
  }

-- A further epoch of another number.
pub joined : (past : History) (other : Epoch) → IsHonest past → IsHonestEpoch other → ((k : ℕ) (d : Epoch) → k < length past → (get_or past k d).number ≢ other.number) → IsHonest (past ++ other ∷ [])
joined past other honest is new = record {
  epochs = All-push IsHonestEpoch past other honest.epochs is;
  distinct = all_pairs_push (λ (one two : Epoch). one.number ≢ two.number) past other honest.distinct new;
}

pub current_honest : (chronicle : Chronicle) → IsLegal chronicle → IsHonestEpoch (current chronicle)
current_honest chronicle legal = last_honest (past chronicle) (current chronicle) (subst IsHonest (history_is chronicle) legal.honest)

-- ---- legal chronicles

pub legal_more : (chronicle : Chronicle) (x : Entry) → IsLegal chronicle → MayFollow chronicle x → IsHonest (history (extended chronicle (x ∷ []))) → IsLegal (extended chronicle (x ∷ []))
legal_more chronicle x legal may honest = record {
  start = legal.start;
  honest = honest;
  follow = λ before y after split. elim (last_cases chronicle.entries x before y after split) [
    | inl here ↦
        subst (λ (xs : List Entry). MayFollow (record { start = chronicle.start; entries = xs }) y) (sym here.0)
        (subst (λ (z : Entry). MayFollow chronicle z) (sym here.1) may)
    | inr there ↦ legal.follow before y there.0 there.1
  ];
}

pub legal_event : (chronicle : Chronicle) (e : Event) → IsLegal chronicle → MayFollow chronicle (entry.Event e) → e.eid ≡ last_eid chronicle + 1 → e.eid < 2 ^ 32
    → contradicts (live_now chronicle) e ≡ false → are_large (live (current chronicle).base ((current chronicle).events ++ e ∷ [])) ≡ false → IsLegal (extended chronicle (entry.Event e ∷ []))
legal_event chronicle e legal may next few agrees fits =
    let honest : IsHonest (past chronicle ++ current chronicle ∷ []) = subst IsHonest (history_is chronicle) legal.honest in
    let grown = grown_honest (current chronicle) e (current_honest chronicle legal) next few agrees fits in
    let whole : IsHonest (past chronicle ++ epoch_after (current chronicle) (entry.Event e) ∷ []) = exchanged (past chronicle) (current chronicle) honest (epoch_after (current chronicle) (entry.Event e)) grown refl in
    legal_more chronicle (entry.Event e) legal may
    (subst IsHonest (ap (λ (h : History). h ++ epoch_after (current chronicle) (entry.Event e) ∷ []) (sym (append-nil (past chronicle))) ∙ sym (history_more chronicle (entry.Event e))) whole)

pub legal_epoch : (chronicle : Chronicle) (n : ℕ) → IsLegal chronicle → MayFollow chronicle (entry.Epoch n) → IsLegal (extended chronicle (entry.Epoch n ∷ []))
legal_epoch chronicle n legal may =
    let honest : IsHonest (past chronicle ++ current chronicle ∷ []) = subst IsHonest (history_is chronicle) legal.honest in
    let begun = begun_honest (current chronicle) n (current_honest chronicle legal) (omega (arith, may.0)) in
    let whole = joined (past chronicle ++ current chronicle ∷ []) (epoch_after (current chronicle) (entry.Epoch n)) honest begun
    (λ k d lt same. elim (cases_lt k (length (past chronicle))) [
      | inl front ↦
          let below = numbers_below chronicle legal k d front in
          absurd (omega (arith, may.0, below, ap (λ (e : Epoch). e.number) (get_or_append_left (past chronicle) (current chronicle ∷ []) d k front), same))
      | inr last ↦
          let place : k ≡ length (past chronicle) = omega (arith, lt, last, length-append (past chronicle) (current chronicle ∷ [])) in
          let is : get_or (past chronicle ++ current chronicle ∷ []) k d ≡ current chronicle = ap (λ (i : ℕ). get_or (past chronicle ++ current chronicle ∷ []) i d) place ∙ get_or-append_seam (past chronicle) (current chronicle) [] d in
          absurd (omega (arith, may.0, ap (λ (e : Epoch). e.number) is, same))
    ]) in
    legal_more chronicle (entry.Epoch n) legal may (subst IsHonest (sym (history_more chronicle (entry.Epoch n))) whole)

pub legal_trim : (chronicle : Chronicle) (k : ℕ) → IsLegal chronicle → MayFollow chronicle (entry.Trim k) → IsLegal (extended chronicle (entry.Trim k ∷ []))
legal_trim chronicle k legal may =
    let honest : IsHonest (past chronicle ++ current chronicle ∷ []) = subst IsHonest (history_is chronicle) legal.honest in
    legal_more chronicle (entry.Trim k) legal may
    (subst IsHonest (ap (λ (h : History). h ++ current chronicle ∷ []) (sym (append-nil (past chronicle))) ∙ sym (history_more chronicle (entry.Trim k))) honest)
