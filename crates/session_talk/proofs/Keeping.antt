-- What stays true along talks that are joined, and what it says of a course.
use Rattle.std.proofs.Common.{ℕ, List, [], ◌∷◌, inl, inr, sym, subst}
use Rattle.session_talk.specs.Talk.{Talk, Done, Ask, Write, Note, and_then, each}
use Rattle.session_talk.specs.Course.{Answers, Gives, Breaks}
use Rattle.session_talk.specs.Keeping.{BreaksWith, Keeps, NotesAre}

module _ {Q : Type 0} {R : Q → Type 0} {N : Type 0} (given kept : N → Type 0) where
  -- A talk and the talk after it.
  pub keeps_then : {A B : Type 0} (between : A → Type 0) (then_so : B → Type 0) (talk : Talk Q R N A) (next : A → Talk Q R N B)
      → Keeps given kept between talk → ((value : A) → between value → Keeps given kept then_so (next value)) → Keeps given kept then_so (and_then talk next)
  keeps_then between then_so (Done value) next keeps later = later value keeps
  keeps_then between then_so (Ask question talk) next keeps later = λ reply. keeps_then between then_so (talk reply) next (keeps reply) later
  keeps_then between then_so (Write octets talk) next keeps later = keeps_then between then_so talk next keeps later
  keeps_then between then_so (Note note talk) next keeps later = λ so. ((keeps so).0, keeps_then between then_so talk next (keeps so).1 later)

  -- A talk for each item of a list.
  pub keeps_each : {A X : Type 0} (then_so : A → Type 0) (step : A → X → Talk Q R N A) (value : A) (items : List X)
      → ((before : A) (item : X) → then_so before → Keeps given kept then_so (step before item)) → then_so value → Keeps given kept then_so (each step value items)
  keeps_each then_so step value [] keeps so = so
  keeps_each then_so step value (item ∷ items) keeps so =
      keeps_then then_so then_so (step value item) (λ next. each step next items) (keeps value item so) (λ next here. keeps_each then_so step next items keeps here)

  -- A talk that goes to its end.
  pub keeps_gives : {A : Type 0} (then_so : A → Type 0) (answers : Answers Q R) (talk : Talk Q R N A) (places out : List ℕ) (value : A)
      → Keeps given kept then_so talk → NotesAre answers given talk places → Gives answers talk places out value → then_so value
  keeps_gives then_so answers (Done x) places out value keeps notes gives = subst then_so (sym gives.2) keeps
  keeps_gives then_so answers (Ask question talk) [] out value keeps notes gives = absurd gives
  keeps_gives then_so answers (Ask question talk) (place ∷ places) out value keeps notes gives =
      keeps_gives then_so answers (talk (answers place question)) places out value (keeps (answers place question)) notes gives
  keeps_gives then_so answers (Write octets talk) places out value keeps notes gives = keeps_gives then_so answers talk places gives.0 value keeps notes gives.2
  keeps_gives then_so answers (Note note talk) places out value keeps notes gives = keeps_gives then_so answers talk places out value (keeps notes.0).1 notes.1 gives

  -- A talk that breaks off.
  pub keeps_breaks : {A : Type 0} (then_so : A → Type 0) (answers : Answers Q R) (last : N) (talk : Talk Q R N A) (places out : List ℕ) (noted : N)
      → kept last → Keeps given kept then_so talk → BreaksWith answers given last talk places out noted → kept noted
  keeps_breaks then_so answers last (Done x) places out noted so keeps breaks = subst kept (sym breaks.2) so
  keeps_breaks then_so answers last (Ask question talk) [] out noted so keeps breaks = subst kept (sym breaks.2) so
  keeps_breaks then_so answers last (Ask question talk) (place ∷ places) out noted so keeps breaks =
      keeps_breaks then_so answers last (talk (answers place question)) places out noted so (keeps (answers place question)) breaks
  keeps_breaks then_so answers last (Write octets talk) places out noted so keeps breaks =
      elim breaks [
        | inl stops ↦ subst kept (sym stops.2) so
        | inr goes ↦ keeps_breaks then_so answers last talk places goes.0 noted so keeps goes.2
      ]
  keeps_breaks then_so answers last (Note note talk) places out noted so keeps breaks =
      elim breaks [
        | inl stops ↦ subst kept (sym stops.2) so
        | inr goes ↦ keeps_breaks then_so answers note talk places out noted (keeps goes.0).0 (keeps goes.0).1 goes.1
      ]

module _ {Q : Type 0} {R : Q → Type 0} {N A : Type 0} (answers : Answers Q R) (given : N → Type 0) where
  -- Where each note of the whole talk is so, each note is that it made until it broke off.
  pub breaks_with : (last : N) (talk : Talk Q R N A) (places out : List ℕ) (noted : N) → NotesAre answers given talk places → Breaks answers last talk places out noted → BreaksWith answers given last talk places out noted
  breaks_with last (Done x) places out noted notes breaks = breaks
  breaks_with last (Ask question talk) [] out noted notes breaks = breaks
  breaks_with last (Ask question talk) (place ∷ places) out noted notes breaks = breaks_with last (talk (answers place question)) places out noted notes breaks
  breaks_with last (Write octets talk) places out noted notes breaks =
      elim breaks [
        | inl stops ↦ inl stops
        | inr goes ↦ inr (goes.0, goes.1, breaks_with last talk places goes.0 noted notes goes.2)
      ]
  breaks_with last (Note note talk) places out noted notes breaks =
      elim breaks [
        | inl stops ↦ inl stops
        | inr goes ↦ inr (notes.0, breaks_with note talk places out noted notes.1 goes)
      ]
