-- Records and events of the current epoch of a legal chronicle are within the limits of the fields
-- that carry them.
use Rattle.std.proofs.Common.{◌≡◌, ◌||◌, ◌+◌, ◌<◌, ◌≤◌, ◌^◌, ℕ, Bool, true, false, not, eqb, cond, eqb-true, List, [], ◌∷◌, ◌++◌, length, Option, Some, refl, sym, ap, subst, append_assoc, arith}
use Rattle.std.specs.Prelude.{All, is_some}
use Rattle.std.proofs.lemmas.List.{append-nil}
use Rattle.std.proofs.lemmas.List.Elements.{All-append, All-cons, All-filter, All-head, All-nil, All-push, All-tail}
use Rattle.std.proofs.lemmas.List.Sorted.{All-permutation}
use Rattle.swima_model.specs.declared.event.Action.{Action}
use Rattle.swima_model.specs.declared.event.Action.TheVariants.{Creation, Deletion, Alteration}
use Rattle.swima_model.specs.declared.event.Event.{Event}
use Rattle.swima_model.specs.declared.record.Content.{Content}
use Rattle.swima_model.specs.declared.record.Record.{Record}
use Rattle.swima_model.specs.History.{AreNumberedFrom, Epoch, IsHonestEpoch, is_contradiction}
use Rattle.swima_model.specs.Live.{is_deletion, is_mentioned, last_mentions, live, record_of, unmentioned}
use Rattle.swima_model.proofs.Placing.{in_order_permutation}
use Rattle.collector_core.specs.declared.chronicle.Entry.{Entry}
use Rattle.collector_core.specs.declared.chronicle.Entry.TheVariants as entry
use Rattle.collector_core.specs.Chronicle.{Chronicle, Start, current, epoch_after, first_epoch, identified_from, live_now}
use Rattle.collector_core.specs.Legal.{IsContent, IsLegal, IsSubject}
use Rattle.collector_core.proofs.Along.{at}
use Rattle.collector_core.proofs.Beginning.{identified_length}
use Rattle.collector_core.proofs.Changing.{large_parts}
use Rattle.collector_core.proofs.Chronicles.{current_honest, current_more}
use Rattle.collector_core.proofs.Fronts.{legal_front}

-- A record whose identifier fits four octets, and whose content is within its limits.
abbrev pub IsWithin : Record → Type 0
IsWithin r = (r.id < 2 ^ 32) × IsContent r.content

-- The subject of an event is such a record.
abbrev pub SubjectIsWithin : Event → Type 0
SubjectIsWithin e = IsWithin e.subject

-- ---- live records

mentions_step : (gone : Bool) (e : Event) (later : List Record) → IsWithin e.subject → All IsWithin later → All IsWithin (cond gone later (e.subject ∷ later))
mentions_step true e later here all = all
mentions_step false e later here all = All-cons IsWithin e.subject later here all

mentions_within : (events : List Event) → All SubjectIsWithin events → All IsWithin (last_mentions events)
mentions_within [] all = All-nil IsWithin
mentions_within (e ∷ later) all =
    mentions_step (is_mentioned e.subject.id later || is_deletion e.action) e (last_mentions later)
    (All-head SubjectIsWithin e later all) (mentions_within later (All-tail SubjectIsWithin e later all))

pub live_within : (base : List Record) (events : List Event) → All IsWithin base → All SubjectIsWithin events → All IsWithin (live base events)
live_within base events held told =
    All-permutation IsWithin (unmentioned events base ++ last_mentions events) (live base events)
    (in_order_permutation (unmentioned events base ++ last_mentions events))
    (All-append IsWithin (unmentioned events base) (last_mentions events)
    (All-filter (λ (r : Record). not (is_mentioned r.id events)) IsWithin base held) (mentions_within events told))

-- An identifier that a live record has.
found_step : (id : ℕ) (r : Record) (found : Option Record) (test : Bool) → eqb r.id id ≡ test → IsWithin r
    → (not (is_some found) ≡ false → id < 2 ^ 32) → not (is_some (cond test (Some r) found)) ≡ false → id < 2 ^ 32
found_step id r found true is here later some = omega (arith, eqb-true r.id id is, here.0)
found_step id r found false is here later some = later some

found_within : (id : ℕ) (rs : List Record) → All IsWithin rs → not (is_some (record_of id rs)) ≡ false → id < 2 ^ 32
found_within id [] all some = absurd cc
found_within id (r ∷ rs) all some =
    found_step id r (record_of id rs) (eqb r.id id) refl (All-head IsWithin r rs all)
    (found_within id rs (All-tail IsWithin r rs all)) some

-- ---- the first epoch

identified_within : (id : ℕ) (contents : List Content) → All IsContent contents → id + length contents ≤ 2 ^ 32 → All IsWithin (identified_from id contents)
identified_within id [] all few = All-nil IsWithin
identified_within id (content ∷ others) all few =
    All-cons IsWithin (record { id = id; content = content }) (identified_from (id + 1) others)
    (omega (arith, few), All-head IsContent content others all)
    (identified_within (id + 1) others (All-tail IsContent content others all) (omega (arith, few)))

-- ---- the current epoch

-- Its number fits four octets, and so do the records that it began with and those of its events.
pub record EpochIsWithin (epoch : Epoch) : Type 0 where
  pub number : epoch.number < 2 ^ 32
  pub base : All IsWithin epoch.base
  pub subjects : All SubjectIsWithin epoch.events

first_within : (start : Start) → IsLegal (at start []) → EpochIsWithin (first_epoch start)
first_within start legal =
    let few = (large_parts (identified_from 1 start.contents) (current_honest (at start []) legal).begins).0 in
    record {
      number = legal.start.epoch.1;
      base = identified_within 1 start.contents legal.start.contents (omega (arith, few, identified_length 1 start.contents));
      subjects = All-nil SubjectIsWithin;
    }

-- The record of an event is a new one, or one that is live.
subject_within : (chronicle : Chronicle) (action : Action) (subject : Record) → All IsWithin (live_now chronicle) → IsSubject chronicle action subject
    → is_contradiction action (record_of subject.id (live_now chronicle)) subject.content ≡ false → subject.id < 2 ^ 32
subject_within chronicle Creation subject all is agrees = omega (arith, is.1)
subject_within chronicle Deletion subject all is agrees =
    found_within subject.id (live_now chronicle) all (ap (λ (o : Option Record). not (is_some o)) is)
subject_within chronicle Alteration subject all is agrees = found_within subject.id (live_now chronicle) all agrees

within_step : (chronicle : Chronicle) (x : Entry) → EpochIsWithin (current chronicle) → IsLegal (at chronicle.start (chronicle.entries ++ x ∷ [])) → EpochIsWithin (epoch_after (current chronicle) x)
within_step chronicle (entry.Event e) is legal =
    let may = legal.follow chronicle.entries (entry.Event e) [] refl in
    let honest = subst IsHonestEpoch (current_more chronicle (entry.Event e)) (current_honest (at chronicle.start (chronicle.entries ++ entry.Event e ∷ [])) legal) in
    let agrees = (honest.fit (current chronicle).events e [] refl).agrees in
    let all = live_within (current chronicle).base (current chronicle).events is.base is.subjects in
    record {
      number = is.number;
      base = is.base;
      subjects = All-push SubjectIsWithin (current chronicle).events e is.subjects (subject_within chronicle e.action e.subject all may.subject agrees, may.content);
    }
within_step chronicle (entry.Epoch n) is legal =
    let may = legal.follow chronicle.entries (entry.Epoch n) [] refl in
    record {
      number = may.1;
      base = live_within (current chronicle).base (current chronicle).events is.base is.subjects;
      subjects = All-nil SubjectIsWithin;
    }
within_step chronicle (entry.Trim k) is legal = is

within_from : (start : Start) (before xs : List Entry) → IsLegal (at start (before ++ xs)) → EpochIsWithin (current (at start before)) → EpochIsWithin (current (at start (before ++ xs)))
within_from start before [] legal is = subst (λ (zs : List Entry). EpochIsWithin (current (at start zs))) (sym (append-nil before)) is
within_from start before (x ∷ xs) legal is =
    let whole : IsLegal (at start ((before ++ x ∷ []) ++ xs)) = subst (λ (zs : List Entry). IsLegal (at start zs)) (sym (append_assoc before (x ∷ []) xs)) legal in
    let next : EpochIsWithin (current (at start (before ++ x ∷ []))) =
    subst EpochIsWithin (sym (current_more (at start before) x)) (within_step (at start before) x is (legal_front start (before ++ x ∷ []) xs whole)) in
    subst (λ (zs : List Entry). EpochIsWithin (current (at start zs))) (append_assoc before (x ∷ []) xs) (within_from start (before ++ x ∷ []) xs whole next)

pub epoch_within : (chronicle : Chronicle) → IsLegal chronicle → EpochIsWithin (current chronicle)
epoch_within chronicle legal =
    within_from chronicle.start [] chronicle.entries legal (first_within chronicle.start (legal_front chronicle.start [] chronicle.entries legal))

-- ---- event identifiers

numbered_within : (n : ℕ) (events : List Event) → AreNumberedFrom n events → n + length events ≤ 2 ^ 32 → All (λ (e : Event). e.eid < 2 ^ 32) events
numbered_within n [] are few = All-nil (λ (e : Event). e.eid < 2 ^ 32)
numbered_within n (e ∷ later) are few =
    All-cons (λ (x : Event). x.eid < 2 ^ 32) e later (omega (arith, are.0, few)) (numbered_within (n + 1) later are.1 (omega (arith, few)))

pub eids_within : (chronicle : Chronicle) → IsLegal chronicle → All (λ (e : Event). e.eid < 2 ^ 32) (current chronicle).events
eids_within chronicle legal =
    let honest = current_honest chronicle legal in
    numbered_within 1 (current chronicle).events honest.eids (omega (arith, honest.few))
