-- The rows of the two wide maps in groups of five, as they are written: RFC 9393, sections 2.3 and
-- 2.8.
use Rattle.std.specs.Prelude.{◌≡◌, ℕ, List, ◌++◌, take, drop}
use Rattle.cbor_det.specs.Laid.{Row, laid}
use Rattle.cbor_det.specs.Term.{Pairs}

abbrev pub first_rows : List Row → List Row
first_rows rows = take 5 rows

abbrev pub second_rows : List Row → List Row
second_rows rows = take 5 (drop 5 rows)

abbrev pub third_rows : List Row → List Row
third_rows rows = drop 10 rows

-- As `Spells` of one row: octets were put after those before, these rows and before each the pairs
-- that are below it. Whatever rows follow, what was put and what is left to put are all.
abbrev pub SpellsRows : List ℕ → List ℕ → List Row → Pairs → Pairs → Type 0
SpellsRows before after put pairs left = (rows : List Row) → after ++ laid rows left ≡ before ++ laid (put ++ rows) pairs
