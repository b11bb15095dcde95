-- The first gap, event by event.
use Rattle.std.proofs.Common.{◌≡◌, ◌≢◌, ◌⊎◌, inl, inr, ℕ, zero, suc, ◌+◌, ◌-◌, ◌<◌, ◌≤◌, eqb, ltb, List, [], ◌∷◌, length, get_or, drop, Option, Some, refl, sym, ap, ◌∙◌, arith}
use Rattle.std.proofs.lemmas.Bool.{cond-true, cond-false, lt-ltb, eq-eqb, ne_eqb}
use Rattle.std.proofs.lemmas.List.{at_drop_more}
use Rattle.swima_model.specs.declared.event.Event.{Event}
use Rattle.validator_core.specs.Following.{eids, events_above, first_difference, numbers_from}

-- The first gap of the events that are left, where those up to an event identifier have been gone
-- over.
abbrev pub left : ℕ → ℕ → ℕ → List Event → Option ℕ
left held consulted last events = first_difference (eids (events_above held events)) (numbers_from (last + 1) (consulted - last))

-- The next event is above the one that is held.
pub next_above : (held consulted last i : ℕ) (events : List Event) (event : Event) → i < length events → event ≡ get_or events i event → held < event.eid
    → left held consulted last (drop i events) ≡ first_difference (event.eid ∷ eids (events_above held (drop (i + 1) events))) (numbers_from (last + 1) (consulted - last))
next_above held consulted last i events event lt is above =
    at_drop_more (left held consulted last) events i event lt
    ∙ ap (λ (e : Event). left held consulted last (e ∷ drop (i + 1) events)) (sym is)
    ∙ ap (λ (es : List Event). first_difference (eids es) (numbers_from (last + 1) (consulted - last)))
    (cond-true (ltb held event.eid) (event ∷ events_above held (drop (i + 1) events)) (events_above held (drop (i + 1) events)) (lt-ltb held event.eid above))

-- It is not the next number, or there is none.
differs_by : (told last consulted count : ℕ) (tolds : List ℕ) → consulted - last ≡ count → last ≤ consulted → (last ≡ consulted) ⊎ (told ≢ last + 1)
    → first_difference (told ∷ tolds) (numbers_from (last + 1) count) ≡ Some told
differs_by told last consulted zero tolds e le why = refl
differs_by told last consulted (suc count) tolds e le (inl same) = absurd (omega (arith, e, same))
differs_by told last consulted (suc count) tolds e le (inr other) =
    cond-false (eqb told (last + 1)) (first_difference tolds (numbers_from (last + 1 + 1) count)) (Some told) (ne_eqb told (last + 1) other)

pub differs : (told last consulted : ℕ) (tolds : List ℕ) → last ≤ consulted → (last ≡ consulted) ⊎ (told ≢ last + 1)
    → first_difference (told ∷ tolds) (numbers_from (last + 1) (consulted - last)) ≡ Some told
differs told last consulted tolds le why = differs_by told last consulted (consulted - last) tolds refl le why

-- It is the next number.
agrees_by : (told last consulted count : ℕ) (tolds : List ℕ) → consulted - last ≡ count → last < consulted → told ≡ last + 1
    → first_difference (told ∷ tolds) (numbers_from (last + 1) count) ≡ first_difference tolds (numbers_from (told + 1) (consulted - told))
agrees_by told last consulted zero tolds e lt same = absurd (omega (arith, e, lt))
agrees_by told last consulted (suc count) tolds e lt same =
    let less : count ≡ consulted - told = omega (arith, e, same) in
    cond-true (eqb told (last + 1)) (first_difference tolds (numbers_from (last + 1 + 1) count)) (Some told) (eq-eqb told (last + 1) same)
    ∙ ap (λ (n : ℕ). first_difference tolds (numbers_from (n + 1) count)) (sym same)
    ∙ ap (λ (n : ℕ). first_difference tolds (numbers_from (told + 1) n)) less

pub agrees : (told last consulted : ℕ) (tolds : List ℕ) → last < consulted → told ≡ last + 1
    → first_difference (told ∷ tolds) (numbers_from (last + 1) (consulted - last)) ≡ first_difference tolds (numbers_from (told + 1) (consulted - told))
agrees told last consulted tolds lt same = agrees_by told last consulted (consulted - last) tolds refl lt same

-- There is no event left, though there are numbers.
ends_by : (last consulted count : ℕ) → consulted - last ≡ count → last < consulted → first_difference [] (numbers_from (last + 1) count) ≡ Some 0
ends_by last consulted zero e lt = absurd (omega (arith, e, lt))
ends_by last consulted (suc count) e lt = refl

pub ends : (last consulted : ℕ) → last < consulted → first_difference [] (numbers_from (last + 1) (consulted - last)) ≡ Some 0
ends last consulted lt = ends_by last consulted (consulted - last) refl lt
