-- The limits of each session, of either end.
use Rattle.std.specs.Prelude.{ℕ}

-- After how many idle turns it ends.
abbrev pub idle_turns : ℕ
idle_turns = 600

-- After how many octets taken it ends.
abbrev pub most_octets : ℕ
most_octets = 4294967295
