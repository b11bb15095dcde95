-- The numbers that sessions write.
use Rattle.std.specs.Prelude.{◌+◌, ◌-◌, ◌%◌, ◌^◌, ℕ, min}

-- The identifiers of a collector and a validator that are written (RFC 5793, section 4.5). Those
-- that are read are not looked at.
abbrev pub COLLECTOR : ℕ
COLLECTOR = 1

abbrev pub VALIDATOR : ℕ
VALIDATOR = 1

-- The assessment result of a validator that does not assess: "Don't know" (RFC 5793, section 4.6).
abbrev pub DO_NOT_KNOW : ℕ
DO_NOT_KNOW = 4

-- The number after a number of four octets.
abbrev pub next_number : ℕ → ℕ
next_number number = (number + 1) % 2 ^ 32

-- A count of eight octets, with that many more. It stands still at its last value.
abbrev pub counted_on : ℕ → ℕ → ℕ
counted_on count more = min (count + more) (2 ^ 64 - 1)
