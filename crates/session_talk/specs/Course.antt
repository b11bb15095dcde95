-- The course of a talk: what it wrote and what it came to, or where memory ran out.
use Rattle.std.specs.Prelude.{◌≡◌, ◌≤◌, ◌⊎◌, ℕ, List, [], ◌∷◌, ◌++◌}
use Rattle.session_talk.specs.Talk.{Talk, Done, Ask, Write, Note}

-- What is replied to a question at a place. A place is how much had happened elsewhere by the time
-- of the question.
abbrev pub Answers : (Q : Type 0) → (Q → Type 0) → Type 0
Answers Q R = ℕ → (question : Q) → R question

-- The talk goes to its end: it asks at these places, one for each question, writes these octets
-- and comes to this value.
abbrev pub Gives : {Q : Type 0} {R : Q → Type 0} {N A : Type 0} → Answers Q R → Talk Q R N A → List ℕ → List ℕ → A → Type 0
Gives answers (Done value) places out given = (places ≡ []) × (out ≡ []) × (given ≡ value)
Gives answers (Ask question talk) [] out given = ⊥
Gives answers (Ask question talk) (place ∷ places) out given = Gives answers (talk (answers place question)) places out given
Gives answers (Write octets talk) places out given = (rest : List ℕ) × (out ≡ octets ++ rest) × Gives answers talk places rest given
Gives answers (Note note talk) places out given = Gives answers talk places out given

-- Nothing more was asked or written, and what is noted is what was noted last.
abbrev pub Stops : {N : Type 0} → N → List ℕ → List ℕ → N → Type 0
Stops last places out noted = (places ≡ []) × (out ≡ []) × (noted ≡ last)

-- The talk breaks off, since memory ran out: before a question, before octets, before a note or at
-- its end. Until then it asks at these places and writes these octets. Before it `last` was noted.
abbrev pub Breaks : {Q : Type 0} {R : Q → Type 0} {N A : Type 0} → Answers Q R → N → Talk Q R N A → List ℕ → List ℕ → N → Type 0
Breaks answers last (Done value) places out noted = Stops last places out noted
Breaks answers last (Ask question talk) [] out noted = Stops last [] out noted
Breaks answers last (Ask question talk) (place ∷ places) out noted = Breaks answers last (talk (answers place question)) places out noted
Breaks answers last (Write octets talk) places out noted =
    Stops last places out noted ⊎ ((rest : List ℕ) × (out ≡ octets ++ rest) × Breaks answers last talk places rest noted)
Breaks answers last (Note note talk) places out noted = Stops last places out noted ⊎ Breaks answers note talk places out noted

-- Two ends reply the same at every place up to this one.
abbrev pub Agree : {Q : Type 0} {R : Q → Type 0} → ℕ → Answers Q R → Answers Q R → Type 0
Agree most one other = (place : ℕ) → place ≤ most → (question : _) → one place question ≡ other place question

-- After these places and octets the talk can go on to its end.
pub record Continues {Q : Type 0} {R : Q → Type 0} {N A : Type 0} (answers : Answers Q R) (talk : Talk Q R N A) (places out : List ℕ) : Type 0 where
  pub later : List ℕ
  pub rest : List ℕ
  pub value : A
  pub gives : Gives answers talk (places ++ later) (out ++ rest) value
