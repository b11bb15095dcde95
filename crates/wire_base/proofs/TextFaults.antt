-- A text spells a value or has a first fault, whatever the kind of texts: what follows where a
-- reader goes over a text one character after another.
use Rattle.std.proofs.Common.{◌≡◌, ℕ, zero, suc, ◌+◌, ◌<◌, ◌⊎◌, inl, inr, List, [], ◌∷◌, ◌++◌, length, take, drop, get_or, Option, Some, None, refl, sym, ap, subst, ◌∙◌, append_assoc, arith}
use Rattle.std.proofs.lemmas.Bool.{cases_lt}
use Rattle.std.proofs.lemmas.List.{append-nil, take-append-drop, take-append-le, length-take, take_more, take_all}
use Rattle.wire_base.specs.FirstFault.{OneOfTwo}
use Rattle.wire_base.specs.Texts.{Begins, Spells, StopsAt}

-- What is the text of a value, or has a first fault.
abbrev pub Either : {V : Type 0} → (V → List ℕ) → (V → Type 0) → List ℕ → Type 0
Either {V = V} spelling holds text = ((value : V) × Spells spelling holds text value) ⊎ ((place : ℕ) × StopsAt spelling holds text place)

-- A reader that goes over a text one character after another. `said` is what it has gone over,
-- `fine` is so of the states that it meets, and `value` is what it gives at the end of the text.
pub record Steps {V S : Type 0} (spelling : V → List ℕ) (holds : V → Type 0) (said : S → List ℕ) (fine : S → Type 0) (next : S → ℕ → Option S) (value : S → Option V) : Type 0 where
  pub begins : (s : S) → fine s → Begins spelling holds (said s)
  pub goes : (s t : S) (c : ℕ) → fine s → next s c ≡ Some t → fine t × (said t ≡ said s ++ c ∷ [])
  pub stops : (s : S) (c : ℕ) → fine s → next s c ≡ None → Begins spelling holds (said s ++ c ∷ []) → ⊥
  pub ends : (s : S) (v : V) → fine s → value s ≡ Some v → Spells spelling holds (said s) v
  pub unfinished : (s : S) → fine s → value s ≡ None → (v : V) → Spells spelling holds (said s) v → ⊥

module _ {V : Type 0} {spelling : V → List ℕ} {holds : V → Type 0} where
  -- A spelling that begins with some characters begins with the first of them.
  shorter : (characters : List ℕ) (count : ℕ) → Begins spelling holds characters → Begins spelling holds (take count characters)
  shorter characters count b = record {
    value = b.value;
    so = b.so;
    more = drop count characters ++ b.more;
    split = b.split ∙ ap (λ (o : List ℕ). o ++ b.more) (sym (take-append-drop count characters)) ∙ append_assoc (take count characters) (drop count characters) b.more;
  }

  -- The text of a value begins with its own characters.
  own : (text : List ℕ) (value : V) → Spells spelling holds text value → Begins spelling holds text
  own text value s = record { value = value; so = s.0; more = []; split = s.1 ∙ sym (append-nil text) }

  -- No fault is later than another one.
  no_later : (text : List ℕ) (one other : ℕ) → StopsAt spelling holds text one → StopsAt spelling holds text other → one < other → ⊥
  no_later text one other a b lt =
      let cut : take (one + 1) (take other text) ≡ take (one + 1) text =
      sym (take-append-le (one + 1) (take other text) (drop other text) (omega (arith, lt, b.within, length-take other text))) ∙ ap (λ (o : List ℕ). take (one + 1) o) (take-append-drop other text) in
      a.stops (omega (arith, lt, b.within)) (subst (λ (o : List ℕ). Begins spelling holds o) cut (shorter (take other text) (one + 1) b.begins))

  one_place : (text : List ℕ) (one other : ℕ) → StopsAt spelling holds text one → StopsAt spelling holds text other → one ≡ other
  one_place text one other a b =
      elim (cases_lt one other) [
        | inl lt ↦ absurd (no_later text one other a b lt)
        | inr le ↦ elim (cases_lt other one) [ inl lt ↦ absurd (no_later text other one b a lt) | inr ge ↦ omega (arith, le, ge) ]
      ]

  -- Where no two values have the same text, a text has one of the two.
  pub one_of_two : ((one other : V) → holds one → holds other → spelling one ≡ spelling other → one ≡ other) → (text : List ℕ) → Either spelling holds text
      → OneOfTwo (λ value. Spells spelling holds text value) (λ place. StopsAt spelling holds text place)
  one_of_two differ text either = record {
    one_value = λ one other a b. differ one other a.0 b.0 (a.1 ∙ sym b.1);
    one_fault = λ one other a b. one_place text one other a b;
    not_both = λ value place a b. b.no_value value a;
    not_neither = either;
  }

  module _ {S : Type 0} {said : S → List ℕ} {fine : S → Type 0} {next : S → ℕ → Option S} {value : S → Option V} (steps : Steps spelling holds said fine next value) where
    -- The reader went over one more character.
    pub goes_on : (text : List ℕ) (place : ℕ) (s t : S) → fine s → said s ≡ take place text → place < length text → next s (get_or text place 0) ≡ Some t
        → fine t × (said t ≡ take (place + 1) text)
    goes_on text place s t is at within e =
        let g = steps.goes s t (get_or text place 0) is e in
        (g.0, g.1 ∙ ap (λ (o : List ℕ). o ++ get_or text place 0 ∷ []) at ∙ sym (take_more text place 0 within))

    -- It stops within the text.
    pub stops_within : (text : List ℕ) (place : ℕ) (s : S) → fine s → said s ≡ take place text → place < length text → next s (get_or text place 0) ≡ None → StopsAt spelling holds text place
    stops_within text place s is at within e =
        let none : Begins spelling holds (take (place + 1) text) → ⊥ = λ b. steps.stops s (get_or text place 0) is e
        (subst (λ (o : List ℕ). Begins spelling holds o) (take_more text place 0 within ∙ ap (λ (o : List ℕ). o ++ get_or text place 0 ∷ []) (sym at)) b) in
        record {
          no_value = λ v h. none (shorter text (place + 1) (own text v h));
          within = omega (arith, within);
          begins = subst (λ (o : List ℕ). Begins spelling holds o) at (steps.begins s is);
          stops = λ lt. none;
        }

    -- It gives no value at the end of the text.
    pub stops_at_end : (text : List ℕ) (place : ℕ) (s : S) → fine s → said s ≡ take place text → place ≡ length text → value s ≡ None → StopsAt spelling holds text place
    stops_at_end text place s is at end e =
        let all : said s ≡ text = at ∙ take_all place text (omega (arith, end)) in
        record {
          no_value = λ v h. steps.unfinished s is e v (subst (λ (o : List ℕ). Spells spelling holds o v) (sym all) h);
          within = omega (arith, end);
          begins = subst (λ (o : List ℕ). Begins spelling holds o) at (steps.begins s is);
          stops = λ lt b. absurd (omega (arith, lt, end));
        }

    -- It gives a value at the end of the text.
    pub ends_at_end : (text : List ℕ) (place : ℕ) (s : S) (v : V) → fine s → said s ≡ take place text → place ≡ length text → value s ≡ Some v → Spells spelling holds text v
    ends_at_end text place s v is at end e =
        let all : said s ≡ text = at ∙ take_all place text (omega (arith, end)) in
        subst (λ (o : List ℕ). Spells spelling holds o v) all (steps.ends s v is e)

    at_end : (text : List ℕ) (place : ℕ) (s : S) → fine s → said s ≡ take place text → place ≡ length text → (given : Option V) → value s ≡ given → Either spelling holds text
    at_end text place s is at end (Some v) e = inl (v, ends_at_end text place s v is at end e)
    at_end text place s is at end None e = inr (place, stops_at_end text place s is at end e)

    step : (text : List ℕ) (place : ℕ) (s : S) → fine s → said s ≡ take place text → place < length text → ((t : S) → fine t → said t ≡ take (place + 1) text → Either spelling holds text)
        → (given : Option S) → next s (get_or text place 0) ≡ given → Either spelling holds text
    step text place s is at within further (Some t) e = let g = goes_on text place s t is at within e in further t g.0 g.1
    step text place s is at within further None e = inr (place, stops_within text place s is at within e)

    from : (count : ℕ) (text : List ℕ) (place : ℕ) (s : S) → fine s → said s ≡ take place text → place + count ≡ length text → Either spelling holds text
    from zero text place s is at end = at_end text place s is at (omega (arith, end)) (value s) refl
    from (suc count) text place s is at end =
        step text place s is at (omega (arith, end)) (λ t fine_t at_t. from count text (place + 1) t fine_t at_t (omega (arith, end))) (next s (get_or text place 0)) refl

    -- From a state in which it has gone over nothing, it finds one of the two in each text.
    pub finds : (s : S) → fine s → said s ≡ [] → (text : List ℕ) → Either spelling holds text
    finds s is none text = from (length text) text 0 s is none (omega arith)
