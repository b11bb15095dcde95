-- Talks without their notes.
use Rattle.std.proofs.Common.{ℕ, List, [], ◌∷◌, ◌++◌, inl, inr, refl, sym, ap, ◌∙◌, append_assoc}
use Rattle.session_talk.specs.Talk.{Talk, Done, Ask, Write, Note, and_then, quietly}
use Rattle.session_talk.specs.Course.{Answers, Gives, Breaks}
use Rattle.session_talk.proofs.Courses.{stopped}

module _ {Q : Type 0} {R : Q → Type 0} where
  -- The notes do not matter to the course of a talk that goes to its end.
  pub gives_quietly : {M A : Type 0} (N : Type 0) (answers : Answers Q R) (talk : Talk Q R M A) (places out : List ℕ) (value : A)
      → Gives answers talk places out value → Gives answers (quietly {N = N} talk) places out value
  gives_quietly N answers (Done x) places out value gives = gives
  gives_quietly N answers (Ask question talk) [] out value gives = absurd gives
  gives_quietly N answers (Ask question talk) (place ∷ places) out value gives = gives_quietly N answers (talk (answers place question)) places out value gives
  gives_quietly N answers (Write octets talk) places out value gives = (gives.0, gives.1, gives_quietly N answers talk places gives.0 value gives.2)
  gives_quietly N answers (Note note talk) places out value gives = gives_quietly N answers talk places out value gives

  -- A quiet talk that breaks off leaves what was noted last.
  pub breaks_quietly : {M N A : Type 0} (answers : Answers Q R) (from : M) (last : N) (talk : Talk Q R M A) (places out : List ℕ) (noted : M)
      → Breaks answers from talk places out noted → Breaks answers last (quietly talk) places out last
  breaks_quietly answers from last (Done x) places out noted breaks = (breaks.0, breaks.1, refl)
  breaks_quietly answers from last (Ask question talk) [] out noted breaks = (refl, breaks.1, refl)
  breaks_quietly answers from last (Ask question talk) (place ∷ places) out noted breaks = breaks_quietly answers from last (talk (answers place question)) places out noted breaks
  breaks_quietly answers from last (Write octets talk) places out noted breaks =
      elim breaks [
        | inl stops ↦ inl (stops.0, stops.1, refl)
        | inr goes ↦ inr (goes.0, goes.1, breaks_quietly answers from last talk places goes.0 noted goes.2)
      ]
  breaks_quietly answers from last (Note note talk) places out noted breaks =
      elim breaks [
        | inl stops ↦ rw (stops.0, stops.1) (stopped answers last (quietly talk))
        | inr goes ↦ breaks_quietly answers note last talk places out noted goes
      ]

  -- A quiet talk that goes to its end, and then a talk that breaks off.
  pub breaks_after_quiet : {M N A B : Type 0} (answers : Answers Q R) (last : N) (talk : Talk Q R M A) (next : A → Talk Q R N B) (places later out more : List ℕ) (value : A) (noted : N)
      → Gives answers talk places out value → Breaks answers last (next value) later more noted
      → Breaks answers last (and_then (quietly talk) next) (places ++ later) (out ++ more) noted
  breaks_after_quiet answers last (Done x) next places later out more value noted first second = rw (first.0, first.1, sym first.2) second
  breaks_after_quiet answers last (Ask question talk) next [] later out more value noted first second = absurd first
  breaks_after_quiet answers last (Ask question talk) next (place ∷ places) later out more value noted first second =
      breaks_after_quiet answers last (talk (answers place question)) next places later out more value noted first second
  breaks_after_quiet answers last (Write octets talk) next places later out more value noted first second = inr (
    first.0 ++ more,
    ap (λ (o : List ℕ). o ++ more) first.1 ∙ append_assoc octets first.0 more,
    breaks_after_quiet answers last talk next places later first.0 more value noted first.2 second,
  )
  breaks_after_quiet answers last (Note note talk) next places later out more value noted first second =
      breaks_after_quiet answers last talk next places later out more value noted first second

  -- So of talks that have nothing to note.
  pub breaks_after : {A B : Type 0} (answers : Answers Q R) (talk : Talk Q R (Unit {0}) A) (next : A → Talk Q R (Unit {0}) B) (places later out more : List ℕ) (value : A)
      → Gives answers talk places out value → Breaks answers tt (next value) later more tt
      → Breaks answers tt (and_then talk next) (places ++ later) (out ++ more) tt
  breaks_after answers (Done x) next places later out more value first second = rw (first.0, first.1, sym first.2) second
  breaks_after answers (Ask question talk) next [] later out more value first second = absurd first
  breaks_after answers (Ask question talk) next (place ∷ places) later out more value first second =
      breaks_after answers (talk (answers place question)) next places later out more value first second
  breaks_after answers (Write octets talk) next places later out more value first second = inr (
    first.0 ++ more,
    ap (λ (o : List ℕ). o ++ more) first.1 ∙ append_assoc octets first.0 more,
    breaks_after answers talk next places later first.0 more value first.2 second,
  )
  breaks_after answers (Note note talk) next places later out more value first second =
      inr (breaks_after answers talk next places later out more value first second)
