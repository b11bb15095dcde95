-- What a writer of a map promises of what stands under one of its keys: RFC 8949, section 4.2.1.
use Rattle.std.specs.Prelude.{◌≡◌, ℕ, List, ◌∷◌, ◌++◌}
use Rattle.cbor_det.specs.Laid.{Row, laid}
use Rattle.cbor_det.specs.Term.{Pairs}

-- Octets were put after those before: the row, and before it the pairs that are below it. The
-- others are left. Whatever rows follow, what was put and what is left to put are all.
abbrev pub Spells : List ℕ → List ℕ → Row → Pairs → Pairs → Type 0
Spells before after row pairs left = (rows : List Row) → after ++ laid rows left ≡ before ++ laid (row ∷ rows) pairs
