-- When the test of a deletion's content is true, and the same of reports of a kind.
use Rattle.std.proofs.Common.{◌≡◌, ◌⊎◌, inl, inr, ℕ, eqb, ◌&&◌, ◌||◌, not, Bool, true, false, List, [], Option, Some, None, refl, sym, ap, ◌∙◌, bytes_eq, eqb-true, eq-eqb}
use Rattle.std.specs.Prelude.{option_map}
use Rattle.std.proofs.lemmas.Bool.{not-false, or_left, or_right, true≢false}
use Rattle.std.proofs.lemmas.Slice.Eq.{bytes_eq-Decides}
use Rattle.swima_model.specs.declared.event.Action.{Action}
use Rattle.swima_model.specs.declared.event.Action.TheVariants.{Creation, Deletion, Alteration}
use Rattle.swima_model.specs.declared.event.Event.{Event}
use Rattle.swima_model.specs.declared.record.Content.{Content}
use Rattle.swima_model.specs.declared.record.Record.{Record}
use Rattle.swima_model.specs.declared.report.Kind.{Kind}
use Rattle.swima_model.specs.declared.report.Kind.TheVariants.{Ids, Full}
use Rattle.swima_model.specs.Carried.{Carries, CarriesIsTested, carries, is_empty}
use Rattle.swima_model.specs.History.{contradicts, is_contradiction}
use Rattle.swima_model.specs.Kinds.{record_of_kind, records_of_kind}
use Rattle.swima_model.specs.Live.{record_of}
use Rattle.swima_model.proofs.OfKind.{event_of_kind, record_of_map}

-- ---- the test, field by field

abbrev content_of : ℕ → ℕ → ℕ → List ℕ → List ℕ → List ℕ → Content
content_of pen kind source ident locator body =
    record { model = record { pen = pen; kind = kind }; source = source; ident = ident; locator = locator; body = body }

same_content : (held carried : Content) (body : List ℕ) → carried.model.pen ≡ held.model.pen → carried.model.kind ≡ held.model.kind → carried.source ≡ held.source
    → carried.ident ≡ held.ident → carried.locator ≡ held.locator → carried.body ≡ body → carried ≡ record held { body = body }
same_content held carried body pen kind source ident locator is =
    ap (λ (n : ℕ). content_of n carried.model.kind carried.source carried.ident carried.locator carried.body) pen
    ∙ ap (λ (n : ℕ). content_of held.model.pen n carried.source carried.ident carried.locator carried.body) kind
    ∙ ap (λ (n : ℕ). content_of held.model.pen held.model.kind n carried.ident carried.locator carried.body) source
    ∙ ap (λ (xs : List ℕ). content_of held.model.pen held.model.kind held.source xs carried.locator carried.body) ident
    ∙ ap (λ (xs : List ℕ). content_of held.model.pen held.model.kind held.source held.ident xs carried.body) locator
    ∙ ap (λ (xs : List ℕ). content_of held.model.pen held.model.kind held.source held.ident held.locator xs) is

apart : (a b c d e f : Bool) → (a && b && c && d && e && f) ≡ true
    → (a ≡ true) × (b ≡ true) × (c ≡ true) × (d ≡ true) × (e ≡ true) × (f ≡ true)
apart true true true true true true is = (refl, refl, refl, refl, refl, refl)
apart false b c d e f is = absurd cc
apart true false c d e f is = absurd cc
apart true true false d e f is = absurd cc
apart true true true false e f is = absurd cc
apart true true true true false f is = absurd cc
apart true true true true true false is = absurd cc

together : (a b c d e f : Bool) → a ≡ true → b ≡ true → c ≡ true → d ≡ true → e ≡ true → f ≡ true → (a && b && c && d && e && f) ≡ true
together true true true true true true a b c d e f = refl
together false b c d e f is h i j k l = absurd (true≢false (sym is))
together true false c d e f h is i j k l = absurd (true≢false (sym is))
together true true false d e f h i is j k l = absurd (true≢false (sym is))
together true true true false e f h i j is k l = absurd (true≢false (sym is))
together true true true true false f h i j k is l = absurd (true≢false (sym is))
together true true true true true false h i j k l is = absurd (true≢false (sym is))

body_cases : (held carried : Content) (empty same : Bool) → is_empty carried.body ≡ empty → bytes_eq carried.body held.body ≡ same → (empty || same) ≡ true
    → (carried.body ≡ []) ⊎ (carried.body ≡ held.body)
body_cases held carried true same is e h = inl ((bytes_eq-Decides carried.body []).0 is)
body_cases held carried false true is e h = inr ((bytes_eq-Decides carried.body held.body).0 e)
body_cases held carried false false is e h = absurd cc

tells : (held carried : Content) → carries held carried ≡ true → Carries held carried
tells held carried is =
    let (pen, kind, source, ident, locator, body) =
    apart (eqb carried.model.pen held.model.pen) (eqb carried.model.kind held.model.kind) (eqb carried.source held.source)
    (bytes_eq carried.ident held.ident) (bytes_eq carried.locator held.locator) (is_empty carried.body || bytes_eq carried.body held.body) is in
    elim (body_cases held carried (is_empty carried.body) (bytes_eq carried.body held.body) refl refl body) [
      | inl none ↦ inr (same_content held carried [] (eqb-true _ _ pen) (eqb-true _ _ kind) (eqb-true _ _ source)
          ((bytes_eq-Decides carried.ident held.ident).0 ident) ((bytes_eq-Decides carried.locator held.locator).0 locator) none)
      | inr same ↦ inl (same_content held carried held.body (eqb-true _ _ pen) (eqb-true _ _ kind) (eqb-true _ _ source)
          ((bytes_eq-Decides carried.ident held.ident).0 ident) ((bytes_eq-Decides carried.locator held.locator).0 locator) same)
    ]

tested : (held carried : Content) → (is_empty carried.body || bytes_eq carried.body held.body) ≡ true → record carried { body = [] } ≡ record held { body = [] } → carries held carried ≡ true
tested held carried is same =
    together (eqb carried.model.pen held.model.pen) (eqb carried.model.kind held.model.kind) (eqb carried.source held.source)
    (bytes_eq carried.ident held.ident) (bytes_eq carried.locator held.locator) (is_empty carried.body || bytes_eq carried.body held.body)
    (eq-eqb _ _ (ap (λ (c : Content). c.model.pen) same)) (eq-eqb _ _ (ap (λ (c : Content). c.model.kind) same)) (eq-eqb _ _ (ap (λ (c : Content). c.source) same))
    ((bytes_eq-Decides carried.ident held.ident).1 (ap (λ (c : Content). c.ident) same)) ((bytes_eq-Decides carried.locator held.locator).1 (ap (λ (c : Content). c.locator) same)) is

tests : (held carried : Content) → Carries held carried → carries held carried ≡ true
tests held carried (inl same) =
    tested held carried (or_right (is_empty carried.body) (bytes_eq carried.body held.body) ((bytes_eq-Decides carried.body held.body).1 (ap (λ (c : Content). c.body) same)))
    (ap (λ (c : Content). record c { body = [] }) same)
tests held carried (inr same) =
    tested held carried (or_left (is_empty carried.body) (bytes_eq carried.body held.body) ((bytes_eq-Decides carried.body []).1 (ap (λ (c : Content). c.body) same)))
    (ap (λ (c : Content). record c { body = [] }) same)

pub carries_is_tested : CarriesIsTested
carries_is_tested held carried = (tells held carried, tests held carried)

-- ---- of a kind

without_bodies : (held carried : Content) → Carries held carried → record carried { body = [] } ≡ record held { body = [] }
without_bodies held carried (inl same) = ap (λ (c : Content). record c { body = [] }) same
without_bodies held carried (inr same) = ap (λ (c : Content). record c { body = [] }) same

carries_of_kind : (kind : Kind) (held carried : Record) → carries held.content carried.content ≡ true
    → carries (record_of_kind kind held).content (record_of_kind kind carried).content ≡ true
carries_of_kind Full held carried is = is
carries_of_kind Ids held carried is =
    tests (record_of_kind Ids held).content (record_of_kind Ids carried).content (inl (without_bodies held.content carried.content (tells held.content carried.content is)))

agrees_of_kind : (kind : Kind) (action : Action) (held : Option Record) (subject : Record) → is_contradiction action held subject.content ≡ false
    → is_contradiction action (option_map (record_of_kind kind) held) (record_of_kind kind subject).content ≡ false
agrees_of_kind kind Creation None subject is = refl
agrees_of_kind kind Creation (Some held) subject is = absurd (true≢false is)
agrees_of_kind kind Deletion None subject is = absurd (true≢false is)
agrees_of_kind kind Deletion (Some held) subject is = ap not (carries_of_kind kind held subject (not-false (carries held.content subject.content) is))
agrees_of_kind kind Alteration None subject is = absurd (true≢false is)
agrees_of_kind kind Alteration (Some held) subject is = refl

-- What agrees with records agrees with them as reports of a kind carry both.
pub contradicts_of_kind : (kind : Kind) (records : List Record) (event : Event) → contradicts records event ≡ false
    → contradicts (records_of_kind kind records) (event_of_kind kind event) ≡ false
contradicts_of_kind kind records event is =
    ap (λ (held : Option Record). is_contradiction event.action held (record_of_kind kind event.subject).content) (record_of_map kind event.subject.id records)
    ∙ agrees_of_kind kind event.action (record_of event.subject.id records) event.subject is

-- ---- a deletion

-- A deletion that carries what is live agrees with it.
pub deletion_agrees : (held : Record) (live : Option Record) → live ≡ Some held → is_contradiction Deletion live held.content ≡ false
deletion_agrees held live is = ap (λ (o : Option Record). is_contradiction Deletion o held.content) is ∙ ap not (tests held.content held.content (inl refl))

-- What agrees and is no creation is of a record that is live.
pub agrees_live : (action : Action) (held : Option Record) (content : Content) → (action ≡ Creation → ⊥) → is_contradiction action held content ≡ false → held ≡ None → ⊥
agrees_live Creation held content other is none = other refl
agrees_live Deletion None content other is none = true≢false is
agrees_live Deletion (Some r) content other is none = absurd cc
agrees_live Alteration None content other is none = true≢false is
agrees_live Alteration (Some r) content other is none = absurd cc
