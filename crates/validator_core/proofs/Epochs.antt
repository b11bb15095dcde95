-- What an honest epoch has live.
use Rattle.std.proofs.Common.{◌≡◌, inl, inr, ℕ, ◌<◌, ◌≤◌, false, List, [], ◌∷◌, ◌++◌, length, get_or, take, sym, ap, ◌∙◌, subst, append_assoc, arith}
use Rattle.std.specs.Prelude.{Contains}
use Rattle.std.specs.List.Sorted.{IsStrictlyIncreasing}
use Rattle.std.proofs.lemmas.Bool.{cases_lt}
use Rattle.std.proofs.lemmas.List.{get_or_default, map-append}
use Rattle.swima_model.specs.declared.event.Event.{Event}
use Rattle.swima_model.specs.declared.record.Record.{Record}
use Rattle.swima_model.specs.declared.report.Kind.{Kind}
use Rattle.swima_model.specs.InOrder.{ids}
use Rattle.swima_model.specs.Kinds.{records_of_kind, events_of_kind}
use Rattle.swima_model.specs.History.{Epoch, History, IsHonest, IsHonestEpoch, FitsBehind, contradicts, live_at}
use Rattle.swima_model.specs.Live.{live}
use Rattle.swima_model.specs.Size.{are_large}
use Rattle.swima_model.proofs.Living.{live_rises, live_more}
use Rattle.swima_model.proofs.Honest.{live_fits}
use Rattle.swima_model.proofs.Carrying.{contradicts_of_kind}
use Rattle.swima_model.proofs.OfKind.{event_of_kind, ids_of_kind, live_of_kind, fits_of_kind}

-- ---- the epochs of an honest history

pub honest_epoch : (history : History) (epoch : Epoch) → IsHonest history → Contains history epoch → IsHonestEpoch epoch
honest_epoch history epoch honest among = subst IsHonestEpoch among.2 (honest.epochs among.0 epoch among.1)

-- Of two places, the epochs there have different numbers.
apart : (history : History) (one other : Epoch) (i j : ℕ) → IsHonest history → i < j → j < length history → get_or history i one ≡ one → get_or history j other ≡ other → one.number ≡ other.number → ⊥
apart history one other i j honest lt within here there same =
    honest.distinct i j one lt within
    (ap (λ (e : Epoch). e.number) here ∙ same ∙ sym (ap (λ (e : Epoch). e.number) (get_or_default history j one other within ∙ there)))

-- Epochs of one number are one.
pub one_epoch : (history : History) (one other : Epoch) → IsHonest history → Contains history one → Contains history other → one.number ≡ other.number → one ≡ other
one_epoch history one other honest here there same = elim (cases_lt here.0 there.0) [
  | inl lt ↦ absurd (apart history one other here.0 there.0 honest lt there.1 here.2 there.2 same)
  | inr le ↦ elim (cases_lt there.0 here.0) [
    | inl lt ↦ absurd (apart history other one there.0 here.0 honest lt here.1 there.2 here.2 (sym same))
    | inr le2 ↦
        let place : here.0 ≡ there.0 = omega arith in
        sym here.2 ∙ get_or_default history here.0 one other here.1 ∙ ap (λ (k : ℕ). get_or history k other) place ∙ there.2
  ]
]

-- ---- what is live at a place of it

pub live_at_rises : (epoch : Epoch) (count : ℕ) (kind : Kind) → IsHonestEpoch epoch → IsStrictlyIncreasing (ids (live_at epoch count kind))
live_at_rises epoch count kind honest =
    subst IsStrictlyIncreasing (sym (ids_of_kind kind (live epoch.base (take count epoch.events)))) (live_rises epoch.base (take count epoch.events) honest.rising)

pub live_at_fits : (epoch : Epoch) (count : ℕ) (kind : Kind) → IsHonestEpoch epoch → count ≤ length epoch.events → are_large (live_at epoch count kind) ≡ false
live_at_fits epoch count kind honest le = fits_of_kind kind (live epoch.base (take count epoch.events)) (live_fits epoch count honest le)

-- Events after a place lead to what is live after them.
pub live_on : (epoch : Epoch) (count : ℕ) (kind : Kind) (events : List Event) → IsHonestEpoch epoch
    → live (live_at epoch count kind) (events_of_kind kind events) ≡ records_of_kind kind (live epoch.base (take count epoch.events ++ events))
live_on epoch count kind events honest =
    live_of_kind kind (live epoch.base (take count epoch.events)) events (live_rises epoch.base (take count epoch.events) honest.rising)
    ∙ ap (records_of_kind kind) (live_more epoch.base (take count epoch.events) events honest.rising)

-- An event of the epoch fits after those before it, as reports of a kind carry them.
pub fits_on : (epoch : Epoch) (count : ℕ) (kind : Kind) (before : List Event) (event : Event) (after : List Event) → IsHonestEpoch epoch → epoch.events ≡ take count epoch.events ++ (before ++ event ∷ after)
    → FitsBehind (live_at epoch count kind) (events_of_kind kind before) (event_of_kind kind event)
fits_on epoch count kind before event after honest split =
    let front : List Event = take count epoch.events ++ before in
    let fit = honest.fit front event after (split ∙ sym (append_assoc (take count epoch.events) before (event ∷ after))) in
    record {
      agrees =
          ap (λ (rs : List Record). contradicts rs (event_of_kind kind event)) (live_on epoch count kind before honest)
          ∙ contradicts_of_kind kind (live epoch.base front) event fit.agrees;
      fits =
          ap (λ (es : List Event). are_large (live (live_at epoch count kind) es)) (sym (map-append (event_of_kind kind) before (event ∷ [])))
          ∙ ap are_large (live_on epoch count kind (before ++ event ∷ []) honest)
          ∙ fits_of_kind kind (live epoch.base (take count epoch.events ++ (before ++ event ∷ [])))
          (ap (λ (es : List Event). are_large (live epoch.base es)) (sym (append_assoc (take count epoch.events) before (event ∷ []))) ∙ fit.fits);
    }
