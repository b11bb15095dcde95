-- Talks one after another.
use Rattle.std.proofs.Common.{◌≡◌, List, [], ◌∷◌, ◌++◌, refl, sym, ap, ◌∙◌}
use Rattle.std.proofs.Math.Path.{fun_ext}
use Rattle.session_talk.specs.Talk.{Talk, Done, Ask, Write, Note, and_then, each}

module _ {Q : Type 0} {R : Q → Type 0} {N : Type 0} where
  -- A talk and then two others is the talk and then the first, and then the second.
  pub then_then : {A B C : Type 0} (talk : Talk Q R N A) (next : A → Talk Q R N B) (later : B → Talk Q R N C)
      → and_then (and_then talk next) later ≡ and_then talk (λ value. and_then (next value) later)
  then_then (Done value) next later = refl
  then_then (Ask question talk) next later = ap (Ask question) (fun_ext (λ reply. then_then (talk reply) next later))
  then_then (Write octets talk) next later = ap (Write octets) (then_then talk next later)
  then_then (Note note talk) next later = ap (Note note) (then_then talk next later)

  -- A talk after which nothing is done is the talk.
  pub then_done : {A : Type 0} (talk : Talk Q R N A) → and_then talk (λ value. Done value) ≡ talk
  then_done (Done value) = refl
  then_done (Ask question talk) = ap (Ask question) (fun_ext (λ reply. then_done (talk reply)))
  then_done (Write octets talk) = ap (Write octets) (then_done talk)
  then_done (Note note talk) = ap (Note note) (then_done talk)

  -- A talk for each of two lists.
  pub each_append : {A X : Type 0} (step : A → X → Talk Q R N A) (value : A) (items others : List X)
      → each step value (items ++ others) ≡ and_then (each step value items) (λ next. each step next others)
  each_append step value [] others = refl
  each_append step value (item ∷ items) others =
      ap (and_then (step value item)) (fun_ext (λ next. each_append step next items others))
      ∙ sym (then_then (step value item) (λ next. each step next items) (λ next. each step next others))

  -- A talk for one item.
  pub each_one : {A X : Type 0} (step : A → X → Talk Q R N A) (value : A) (item : X) → each step value (item ∷ []) ≡ step value item
  each_one step value item = then_done (step value item)
