-- What `MakeTells` means: one text fits each number of packages.
use Rattle.std.specs.Prelude.{◌≡◌, ℕ, List}
use Rattle.session_day.specs.Day.{MakeTells}

-- Of a day of that many packages at most one text is printed.
abbrev pub OneMakeText : Type 0
OneMakeText = (count : ℕ) (text other : List ℕ) → MakeTells count text → MakeTells count other → text ≡ other
