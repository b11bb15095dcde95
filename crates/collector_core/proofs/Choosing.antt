-- The events that are chosen of a log, one event identifier after another.
use Rattle.std.proofs.Common.{◌≡◌, ℕ, zero, suc, ◌+◌, ◌-◌, ◌≤◌, leb, List, [], ◌∷◌, ◌++◌, length, take, drop, refl, sym, ap, ◌∙◌, arith, take_all, length-drop}
use Rattle.std.specs.Prelude.{Option, option_to_list, slice_get}
use Rattle.std.proofs.lemmas.Bool.{cond-true, le-leb}
use Rattle.std.proofs.lemmas.List.Elements.{filter-append}
use denote.Ref.{Bor}
use Rattle.swima_model.specs.declared.event.Event.{Event}
use Rattle.event_log.specs.Log.{IsLog, Log, event_at, events_from}
use Rattle.event_log.proofs.Pushing.{from_is_drop}
use Rattle.collector_core.specs.Answering.{is_wanted, wanted_events}
use Rattle.collector_core.specs.Borrowed.{values}
use Rattle.collector_core.proofs.Wanting.{few_chosen}

pub one_more : (k : ℕ) (xs : List Event) → take (suc k) xs ≡ take k xs ++ option_to_list (slice_get xs k)
one_more zero [] = refl
one_more zero (x ∷ xs) = refl
one_more (suc k) [] = refl
one_more (suc k) (x ∷ xs) = ap (λ (l : List Event). x ∷ l) (one_more k xs)

pub get_behind : (n k : ℕ) (xs : List Event) → slice_get (drop n xs) k ≡ slice_get xs (n + k)
get_behind zero k xs = let e : k ≡ 0 + k = omega arith in ap (slice_get xs) e
get_behind (suc n) k [] = refl
get_behind (suc n) k (x ∷ xs) = let e : suc (n + k) ≡ suc n + k = omega arith in get_behind n k xs ∙ ap (slice_get (x ∷ xs)) e

module _ (log : Log) (is : IsLog log) (targets : List (List ℕ)) (earliest : ℕ) (kept : log.first ≤ earliest) where
  from : events_from earliest log.events ≡ drop (earliest - log.first) log.events
  from = from_is_drop earliest log.first log.events is.numbered

  here : (eid : ℕ) → earliest ≤ eid → event_at log eid ≡ slice_get (drop (earliest - log.first) log.events) (eid - earliest)
  here eid above =
      let place : eid - log.first ≡ earliest - log.first + (eid - earliest) = omega (arith, kept, above) in
      cond-true (leb log.first eid) _ _ (le-leb log.first eid (omega (arith, kept, above)))
      ∙ ap (slice_get log.events) place
      ∙ sym (get_behind (earliest - log.first) (eid - earliest) log.events)

  -- With one event identifier more.
  pub chosen_more : (eid : ℕ) (so_far one : List Event) → earliest ≤ eid → so_far ≡ wanted_events targets (take (eid - earliest) (events_from earliest log.events))
      → one ≡ wanted_events targets (option_to_list (event_at log eid)) → so_far ++ one ≡ wanted_events targets (take (eid + 1 - earliest) (events_from earliest log.events))
  chosen_more eid so_far one above before at =
      let k : eid + 1 - earliest ≡ suc (eid - earliest) = omega (arith, above) in
      ap (λ (l : List Event). l ++ one) before
      ∙ ap (λ (l : List Event). wanted_events targets (take (eid - earliest) (events_from earliest log.events)) ++ l) (at ∙ ap (λ (o : Option Event). wanted_events targets (option_to_list o)) (here eid above ∙ ap (λ (l : List Event). slice_get l (eid - earliest)) (sym from)))
      ∙ sym (filter-append (λ (e : Event). is_wanted targets e.subject.content.ident) (take (eid - earliest) (events_from earliest log.events)) (option_to_list (slice_get (events_from earliest log.events) (eid - earliest))))
      ∙ ap (wanted_events targets) (sym (one_more (eid - earliest) (events_from earliest log.events)))
      ∙ ap (λ (n : ℕ). wanted_events targets (take n (events_from earliest log.events))) (sym k)

  -- After the last, all.
  pub chosen_all : (eid : ℕ) (so_far : List Event) → log.last + 1 ≤ eid → so_far ≡ wanted_events targets (take (eid - earliest) (events_from earliest log.events)) → so_far ≡ wanted_events targets (events_from earliest log.events)
  chosen_all eid so_far past before =
      let long : length (events_from earliest log.events) ≤ eid - earliest = omega (arith, ap length from, length-drop (earliest - log.first) log.events, is.count, past, kept) in
      before ∙ ap (wanted_events targets) (take_all (eid - earliest) (events_from earliest log.events) long)

  pub few_events : (chosen : List (Bor Event)) → values chosen ≡ wanted_events targets (events_from earliest log.events) → length chosen ≤ 4096
  few_events chosen are =
      let some : length chosen ≤ length (events_from earliest log.events) = few_chosen chosen (λ (e : Event). is_wanted targets e.subject.content.ident) (events_from earliest log.events) are in
      omega (arith, some, ap length from, length-drop (earliest - log.first) log.events, is.few, is.caps)
