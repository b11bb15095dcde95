-- Octets in order.
use Rattle.std.specs.Prelude.{ℕ, List}
use Rattle.std.specs.Ordering.{nat_cmp}
use Rattle.std.specs.Cmp.Lexicographic.{slice_cmp}
use Rattle.std.specs.List.Sorted.{IsSorted}
use denote.Ref.{Bor}

-- Each comes after those that are lower: the first octet that differs decides, and else the
-- length.
abbrev pub Rises : List (Bor (List ℕ)) → Type 0
Rises rising = IsSorted (λ one other. slice_cmp nat_cmp one.now other.now) rising
