-- Lists of values that are borrowed.
use Rattle.std.specs.Prelude.{List, map}
use denote.Ref.{Bor}

-- The values.
abbrev pub values : {X : Type 0} → List (Bor X) → List X
values borrowed = map (λ b. b.now) borrowed
