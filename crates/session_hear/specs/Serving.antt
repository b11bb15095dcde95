-- The rules of an end, applied to each step that it hears.
use Rattle.std.specs.Prelude.{List, [], ◌∷◌}
use Rattle.session_talk.specs.Talk.{Talk, Done, Note, and_then}
use Rattle.session_hear.specs.Step.{Step}

-- From a standing, the talk of each step in order, by the rules `react`. After each of them `note`
-- of the new standing is what is noted.
abbrev pub serve : {Q : Type 0} {R : Q → Type 0} {N S : Type 0} → (S → Step → Talk Q R N S) → (S → N) → S → List Step → Talk Q R N S
serve react note standing [] = Done standing
serve react note standing (step ∷ steps) = and_then (react standing step) (λ next. Note (note next) (serve react note next steps))
