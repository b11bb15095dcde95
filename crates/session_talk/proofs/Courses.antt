-- The course of talks that are joined, by the courses of their parts.
use Rattle.std.proofs.Common.{◌≡◌, ℕ, List, [], ◌∷◌, ◌++◌, inl, inr, refl, sym, ap, ◌∙◌, append_assoc}
use Rattle.session_talk.specs.Talk.{Talk, Done, Ask, Write, Note, and_then}
use Rattle.session_talk.specs.Course.{Answers, Gives, Stops, Breaks}

module _ {Q : Type 0} {R : Q → Type 0} {N : Type 0} where
  -- A talk and the talk after it: their places and octets one after another.
  pub gives_then : {A B : Type 0} (answers : Answers Q R) (talk : Talk Q R N A) (next : A → Talk Q R N B) (places later out more : List ℕ) (value : A) (given : B)
      → Gives answers talk places out value → Gives answers (next value) later more given
      → Gives answers (and_then talk next) (places ++ later) (out ++ more) given
  gives_then answers (Done x) next places later out more value given first second = rw (first.0, first.1, sym first.2) second
  gives_then answers (Ask question talk) next [] later out more value given first second = absurd first
  gives_then answers (Ask question talk) next (place ∷ places) later out more value given first second =
      gives_then answers (talk (answers place question)) next places later out more value given first second
  gives_then answers (Write octets talk) next places later out more value given first second = (
    first.0 ++ more,
    ap (λ (o : List ℕ). o ++ more) first.1 ∙ append_assoc octets first.0 more,
    gives_then answers talk next places later first.0 more value given first.2 second,
  )
  gives_then answers (Note note talk) next places later out more value given first second =
      gives_then answers talk next places later out more value given first second

  -- The parts of a course of two talks.
  pub record Parts {A B : Type 0} (answers : Answers Q R) (talk : Talk Q R N A) (next : A → Talk Q R N B) (places out : List ℕ) (given : B) : Type 0 where
    pub first : List ℕ
    pub later : List ℕ
    pub begun : List ℕ
    pub rest : List ℕ
    pub value : A
    pub places_join : places ≡ first ++ later
    pub octets_join : out ≡ begun ++ rest
    pub gives : Gives answers talk first begun value
    pub gives_later : Gives answers (next value) later rest given

  pub parts : {A B : Type 0} (answers : Answers Q R) (talk : Talk Q R N A) (next : A → Talk Q R N B) (places out : List ℕ) (given : B)
      → Gives answers (and_then talk next) places out given → Parts answers talk next places out given
  parts answers (Done x) next places out given both =
      record { first = []; later = places; begun = []; rest = out; value = x; places_join = refl; octets_join = refl; gives = (refl, refl, refl); gives_later = both }
  parts answers (Ask question talk) next [] out given both = absurd both
  parts answers (Ask question talk) next (place ∷ places) out given both =
      let p = parts answers (talk (answers place question)) next places out given both in
      record {
        first = place ∷ p.first;
        later = p.later;
        begun = p.begun;
        rest = p.rest;
        value = p.value;
        places_join = ap (λ (ps : List ℕ). place ∷ ps) p.places_join;
        octets_join = p.octets_join;
        gives = p.gives;
        gives_later = p.gives_later;
      }
  parts answers (Write octets talk) next places out given both =
      let p = parts answers talk next places both.0 given both.2 in
      record {
        first = p.first;
        later = p.later;
        begun = octets ++ p.begun;
        rest = p.rest;
        value = p.value;
        places_join = p.places_join;
        octets_join = both.1 ∙ ap (λ (o : List ℕ). octets ++ o) p.octets_join ∙ sym (append_assoc octets p.begun p.rest);
        gives = (p.begun, refl, p.gives);
        gives_later = p.gives_later;
      }
  parts answers (Note note talk) next places out given both =
      let p = parts answers talk next places out given both in
      record {
        first = p.first;
        later = p.later;
        begun = p.begun;
        rest = p.rest;
        value = p.value;
        places_join = p.places_join;
        octets_join = p.octets_join;
        gives = p.gives;
        gives_later = p.gives_later;
      }

  -- ---- where memory ran out

  -- Each talk may break off at once.
  pub stopped : {A : Type 0} (answers : Answers Q R) (last : N) (talk : Talk Q R N A) → Breaks answers last talk [] [] last
  stopped answers last (Done value) = (refl, refl, refl)
  stopped answers last (Ask question talk) = (refl, refl, refl)
  stopped answers last (Write octets talk) = inl (refl, refl, refl)
  stopped answers last (Note note talk) = inl (refl, refl, refl)

  -- A talk that stops at once breaks off there.
  pub stops_breaks : {A : Type 0} (answers : Answers Q R) (last : N) (talk : Talk Q R N A) (places out : List ℕ) (noted : N) → Stops last places out noted → Breaks answers last talk places out noted
  stops_breaks answers last talk places out noted stops = rw (stops.0, stops.1, stops.2) (stopped answers last talk)

  -- A talk that breaks off does so too where others were to follow.
  pub breaks_first : {A B : Type 0} (answers : Answers Q R) (last : N) (talk : Talk Q R N A) (next : A → Talk Q R N B) (places out : List ℕ) (noted : N)
      → Breaks answers last talk places out noted → Breaks answers last (and_then talk next) places out noted
  breaks_first answers last (Done x) next places out noted breaks = stops_breaks answers last (next x) places out noted breaks
  breaks_first answers last (Ask question talk) next [] out noted breaks = breaks
  breaks_first answers last (Ask question talk) next (place ∷ places) out noted breaks =
      breaks_first answers last (talk (answers place question)) next places out noted breaks
  breaks_first answers last (Write octets talk) next places out noted breaks =
      elim breaks [
        | inl stops ↦ inl stops
        | inr goes ↦ inr (goes.0, goes.1, breaks_first answers last talk next places goes.0 noted goes.2)
      ]
  breaks_first answers last (Note note talk) next places out noted breaks =
      elim breaks [
        | inl stops ↦ inl stops
        | inr goes ↦ inr (breaks_first answers note talk next places out noted goes)
      ]

  -- A talk that goes to its end and then, once something was noted, a talk that breaks off.
  pub breaks_then : {A B : Type 0} (answers : Answers Q R) (last : N) (note : A → N) (talk : Talk Q R N A) (next : A → Talk Q R N B) (places later out more : List ℕ) (value : A) (noted : N)
      → Gives answers talk places out value → Breaks answers (note value) (next value) later more noted
      → Breaks answers last (and_then talk (λ x. Note (note x) (next x))) (places ++ later) (out ++ more) noted
  breaks_then answers last note (Done x) next places later out more value noted first second = rw (first.0, first.1, sym first.2) (inr second)
  breaks_then answers last note (Ask question talk) next [] later out more value noted first second = absurd first
  breaks_then answers last note (Ask question talk) next (place ∷ places) later out more value noted first second =
      breaks_then answers last note (talk (answers place question)) next places later out more value noted first second
  breaks_then answers last note (Write octets talk) next places later out more value noted first second = inr (
    first.0 ++ more,
    ap (λ (o : List ℕ). o ++ more) first.1 ∙ append_assoc octets first.0 more,
    breaks_then answers last note talk next places later first.0 more value noted first.2 second,
  )
  breaks_then answers last note (Note n talk) next places later out more value noted first second =
      inr (breaks_then answers n note talk next places later out more value noted first second)
