-- The course of a talk as a function: the first questions are asked at the places that are listed,
-- and all others at one place, now.
use Rattle.std.specs.Prelude.{ℕ, List, [], ◌∷◌, ◌++◌}
use Rattle.session_talk.specs.Talk.{Talk, Done, Ask, Write, Note}
use Rattle.session_talk.specs.Course.{Answers}

-- Octets before those that are written, and what the talk comes to.
abbrev pub after_octets : {A : Type 0} → List ℕ → List ℕ × A → List ℕ × A
after_octets octets given = (octets ++ given.0, given.1)

-- What is written and what the talk comes to.
abbrev pub given : {Q : Type 0} {R : Q → Type 0} {N A : Type 0} → Answers Q R → ℕ → Talk Q R N A → List ℕ → List ℕ × A
given answers now (Done value) places = ([], value)
given answers now (Ask question talk) [] = given answers now (talk (answers now question)) []
given answers now (Ask question talk) (place ∷ places) = given answers now (talk (answers place question)) places
given answers now (Write octets talk) places = after_octets octets (given answers now talk places)
given answers now (Note note talk) places = given answers now talk places

-- The places at which it asks, one for each question.
abbrev pub placed : {Q : Type 0} {R : Q → Type 0} {N A : Type 0} → Answers Q R → ℕ → Talk Q R N A → List ℕ → List ℕ
placed answers now (Done value) places = []
placed answers now (Ask question talk) [] = now ∷ placed answers now (talk (answers now question)) []
placed answers now (Ask question talk) (place ∷ places) = place ∷ placed answers now (talk (answers place question)) places
placed answers now (Write octets talk) places = placed answers now talk places
placed answers now (Note note talk) places = placed answers now talk places
