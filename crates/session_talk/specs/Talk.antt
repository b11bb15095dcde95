-- Talks: what an end of a session does, one step after another. RFC 5793, section 3, says which
-- batches an end sends and when; a talk is what follows from one such rule.
use Rattle.std.specs.Prelude.{ℕ, List, [], ◌∷◌}

-- A talk of an end that may ask questions, each with a type of replies.
--   Done value         nothing more is done, and this is what it comes to
--   Ask question talk  the question is asked, and the talk goes on by the reply
--   Write octets talk  the octets are written, and then the talk goes on
--   Note note talk     what is noted is this from now on, and then the talk goes on
pub data Talk (Q : Type 0) (R : Q → Type 0) (N A : Type 0) : Type 0 where
  Done : A → Talk Q R N A
  Ask : (question : Q) → (R question → Talk Q R N A) → Talk Q R N A
  Write : List ℕ → Talk Q R N A → Talk Q R N A
  Note : N → Talk Q R N A → Talk Q R N A

-- A talk, and then the talk that follows from what it comes to.
abbrev pub and_then : {Q : Type 0} {R : Q → Type 0} {N A B : Type 0} → Talk Q R N A → (A → Talk Q R N B) → Talk Q R N B
and_then (Done value) next = next value
and_then (Ask question talk) next = Ask question (λ reply. and_then (talk reply) next)
and_then (Write octets talk) next = Write octets (and_then talk next)
and_then (Note note talk) next = Note note (and_then talk next)

-- A talk for each item of a list, each from what the one before comes to.
abbrev pub each : {Q : Type 0} {R : Q → Type 0} {N A X : Type 0} → (A → X → Talk Q R N A) → A → List X → Talk Q R N A
each step value [] = Done value
each step value (item ∷ items) = and_then (step value item) (λ next. each step next items)

-- A talk without its notes.
abbrev pub quietly : {Q : Type 0} {R : Q → Type 0} {M N A : Type 0} → Talk Q R M A → Talk Q R N A
quietly (Done value) = Done value
quietly (Ask question talk) = Ask question (λ reply. quietly (talk reply))
quietly (Write octets talk) = Write octets (quietly talk)
quietly (Note note talk) = quietly talk
