-- What is true where a talk ends, by what it wrote, at whatever places it asks.
use Rattle.std.proofs.Common.{ℕ, List, [], ◌∷◌, ◌++◌, sym, subst, subst₂, ap, ◌∙◌, append_assoc, append-nil}
use Rattle.session_talk.specs.Talk.{Talk, Done, Ask, Write, Note, and_then, quietly}
use Rattle.session_talk.specs.Course.{Answers, Gives}

-- After these octets the talk comes to octets and a value of which this is true.
abbrev pub Comes : {Q : Type 0} {R : Q → Type 0} {N A : Type 0} → Answers Q R → (List ℕ → A → Type 0) → List ℕ → Talk Q R N A → Type 0
Comes answers so before (Done value) = so before value
Comes answers so before (Ask question talk) = (place : ℕ) → Comes answers so before (talk (answers place question))
Comes answers so before (Write octets talk) = Comes answers so (before ++ octets) talk
Comes answers so before (Note note talk) = Comes answers so before talk

module _ {Q : Type 0} {R : Q → Type 0} (answers : Answers Q R) where
  -- A talk and the talk after it.
  pub comes_then : {N A B : Type 0} (between : List ℕ → A → Type 0) (so : List ℕ → B → Type 0) (before : List ℕ) (talk : Talk Q R N A) (next : A → Talk Q R N B)
      → Comes answers between before talk → ((octets : List ℕ) (value : A) → between octets value → Comes answers so octets (next value)) → Comes answers so before (and_then talk next)
  comes_then between so before (Done value) next comes later = later before value comes
  comes_then between so before (Ask question talk) next comes later = λ place. comes_then between so before (talk (answers place question)) next (comes place) later
  comes_then between so before (Write octets talk) next comes later = comes_then between so (before ++ octets) talk next comes later
  comes_then between so before (Note note talk) next comes later = comes_then between so before talk next comes later

  -- A talk without its notes.
  pub comes_quietly : {M A : Type 0} (N : Type 0) (so : List ℕ → A → Type 0) (before : List ℕ) (talk : Talk Q R M A) → Comes answers so before talk → Comes answers so before (quietly {N = N} talk)
  comes_quietly N so before (Done value) comes = comes
  comes_quietly N so before (Ask question talk) comes = λ place. comes_quietly N so before (talk (answers place question)) (comes place)
  comes_quietly N so before (Write octets talk) comes = comes_quietly N so (before ++ octets) talk comes
  comes_quietly N so before (Note note talk) comes = comes_quietly N so before talk comes

  -- A talk that goes to its end.
  pub comes_gives : {N A : Type 0} (so : List ℕ → A → Type 0) (before : List ℕ) (talk : Talk Q R N A) (places out : List ℕ) (value : A)
      → Comes answers so before talk → Gives answers talk places out value → so (before ++ out) value
  comes_gives so before (Done x) places out value comes gives =
      subst₂ (λ (o : List ℕ) v. so o v) (sym (append-nil before) ∙ ap (λ (o : List ℕ). before ++ o) (sym gives.1)) (sym gives.2) comes
  comes_gives so before (Ask question talk) [] out value comes gives = absurd gives
  comes_gives so before (Ask question talk) (place ∷ places) out value comes gives = comes_gives so before (talk (answers place question)) places out value (comes place) gives
  comes_gives so before (Write octets talk) places out value comes gives =
      subst (λ (o : List ℕ). so o value) (append_assoc before octets gives.0 ∙ ap (λ (o : List ℕ). before ++ o) (sym gives.1)) (comes_gives so (before ++ octets) talk places gives.0 value comes gives.2)
  comes_gives so before (Note note talk) places out value comes gives = comes_gives so before talk places out value comes gives
