-- Counters of 64 bits that stand still at their last value.
use Rattle.std.specs.Prelude.{◌+◌, ◌-◌, ◌^◌, ℕ, min}

-- The next value of such a counter.
abbrev pub next : ℕ → ℕ
next count = min (count + 1) (2 ^ 64 - 1)
