-- What an honest epoch has live fits in a mirror.
use Rattle.std.proofs.Common.{◌≡◌, ℕ, zero, suc, ◌+◌, ◌<◌, ◌≤◌, false, List, [], ◌∷◌, ◌++◌, length, get_or, take, drop, sym, ap, ◌∙◌, append_assoc, arith}
use Rattle.std.proofs.lemmas.List.{take_more, take-append-drop}
use Rattle.swima_model.specs.declared.event.Event.{Event}
use Rattle.swima_model.specs.History.{Epoch, IsHonestEpoch}
use Rattle.swima_model.specs.Live.{live}
use Rattle.swima_model.specs.Size.{are_large}
use Rattle.swima_model.proofs.Living.{live_none}

-- What is live after that many events fits.
pub live_fits : (epoch : Epoch) (count : ℕ) → IsHonestEpoch epoch → count ≤ length epoch.events → are_large (live epoch.base (take count epoch.events)) ≡ false
live_fits epoch zero honest le = ap are_large (live_none epoch.base honest.rising) ∙ honest.begins
live_fits epoch (suc count) honest le =
    let f = found epoch.events count (omega (arith, le)) in
    let split : epoch.events ≡ take count epoch.events ++ f.0 ∷ drop (count + 1) epoch.events =
    sym (take-append-drop (count + 1) epoch.events) ∙ ap (λ (es : List Event). es ++ drop (count + 1) epoch.events) f.1
    ∙ append_assoc (take count epoch.events) (f.0 ∷ []) (drop (count + 1) epoch.events) in
    let one : suc count ≡ count + 1 = omega arith in
    ap (λ (k : ℕ). are_large (live epoch.base (take k epoch.events))) one ∙ ap (λ (es : List Event). are_large (live epoch.base es)) f.1
    ∙ (honest.fit (take count epoch.events) f.0 (drop (count + 1) epoch.events) split).fits
  where
    found : (events : List Event) (k : ℕ) → k < length events → (event : Event) × (take (k + 1) events ≡ take k events ++ event ∷ [])
    found [] k lt = absurd (omega arith)
    found (e ∷ later) k lt = (get_or (e ∷ later) k e, take_more (e ∷ later) k e lt)
