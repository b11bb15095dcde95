-- What is written along talks that are joined.
use Rattle.std.proofs.Common.{ℕ, List, [], ◌∷◌}
use Rattle.session_talk.specs.Talk.{Talk, Done, Ask, Write, Note, and_then, each}
use Rattle.session_talk.specs.Keeping.{Writes}

module _ {Q : Type 0} {R : Q → Type 0} {N : Type 0} (so : N → List ℕ → Type 0) where
  -- A talk and the talk after it.
  pub writes_then : {A B : Type 0} (between : N → A → Type 0) (then_so : N → B → Type 0) (last : N) (talk : Talk Q R N A) (next : A → Talk Q R N B)
      → Writes so between last talk → ((noted : N) (value : A) → between noted value → Writes so then_so noted (next value)) → Writes so then_so last (and_then talk next)
  writes_then between then_so last (Done value) next writes later = later last value writes
  writes_then between then_so last (Ask question talk) next writes later = λ reply. writes_then between then_so last (talk reply) next (writes reply) later
  writes_then between then_so last (Write octets talk) next writes later = (writes.0, writes_then between then_so last talk next writes.1 later)
  writes_then between then_so last (Note note talk) next writes later = writes_then between then_so note talk next writes later

  -- A talk for each item of a list.
  pub writes_each : {A X : Type 0} (then_so : N → A → Type 0) (step : A → X → Talk Q R N A) (last : N) (value : A) (items : List X)
      → ((noted : N) (before : A) (item : X) → then_so noted before → Writes so then_so noted (step before item)) → then_so last value → Writes so then_so last (each step value items)
  writes_each then_so step last value [] writes here = here
  writes_each then_so step last value (item ∷ items) writes here =
      writes_then then_so then_so last (step value item) (λ next. each step next items) (writes last value item here) (λ noted next there. writes_each then_so step noted next items writes there)
