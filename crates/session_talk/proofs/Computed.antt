-- The course of a talk as a function is the course of the talk.
use Rattle.std.proofs.Common.{◌≡◌, ℕ, List, [], ◌∷◌, refl, sym, ap, ◌∙◌}
use Rattle.session_talk.specs.Talk.{Talk, Done, Ask, Write, Note}
use Rattle.session_talk.specs.Course.{Answers, Gives}
use Rattle.session_talk.specs.Given.{given, placed, after_octets}

module _ {Q : Type 0} {R : Q → Type 0} {N A : Type 0} where
  -- A talk goes to its end at the places at which it asks.
  pub gives_given : (answers : Answers Q R) (now : ℕ) (talk : Talk Q R N A) (places : List ℕ)
      → Gives answers talk (placed answers now talk places) (given answers now talk places).0 (given answers now talk places).1
  gives_given answers now (Done value) places = (refl, refl, refl)
  gives_given answers now (Ask question talk) [] = gives_given answers now (talk (answers now question)) []
  gives_given answers now (Ask question talk) (place ∷ places) = gives_given answers now (talk (answers place question)) places
  gives_given answers now (Write octets talk) places = ((given answers now talk places).0, refl, gives_given answers now talk places)
  gives_given answers now (Note note talk) places = gives_given answers now talk places

  -- What a talk wrote and came to is what the function gives at its places.
  pub given_gives : (answers : Answers Q R) (now : ℕ) (talk : Talk Q R N A) (places out : List ℕ) (value : A)
      → Gives answers talk places out value → given answers now talk places ≡ (out, value)
  given_gives answers now (Done x) places out value gives = rw (gives.1, gives.2) refl
  given_gives answers now (Ask question talk) [] out value gives = absurd gives
  given_gives answers now (Ask question talk) (place ∷ places) out value gives = given_gives answers now (talk (answers place question)) places out value gives
  given_gives answers now (Write octets talk) places out value gives =
      ap (after_octets octets) (given_gives answers now talk places gives.0 value gives.2) ∙ ap (λ (o : List ℕ). (o, value)) (sym gives.1)
  given_gives answers now (Note note talk) places out value gives = given_gives answers now talk places out value gives
