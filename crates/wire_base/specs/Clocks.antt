-- The moments that a clock will give.
use Rattle.std.specs.Option.{unwrap_or}
use Rattle.std.specs.Prelude.{ℕ, List, drop, slice_get}

-- The next moments, in order, and the one that comes again and again after them. A moment is a
-- number of seconds since 1970-01-01T00:00:00Z.
pub record Moments : Type 0 where
  pub next : List ℕ
  pub last : ℕ

-- The moment that comes now.
abbrev pub this_moment : Moments → ℕ
this_moment moments = unwrap_or (slice_get moments.next 0) moments.last

-- The moments that come after it.
abbrev pub later_moments : Moments → Moments
later_moments moments = record { next = drop 1 moments.next; last = moments.last }
