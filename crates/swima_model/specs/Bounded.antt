-- Octets of a bounded number.
use Rattle.std.specs.Prelude.{◌≡◌, ◌<◌, ◌≤◌, ℕ, List, Result, Ok, Err, length}
use Rattle.swima_model.specs.declared.bounded.LongRefused.{LongRefused}
use Rattle.swima_model.specs.declared.bounded.LongRefused.TheVariants as refused

-- Octets are taken as they are exactly where they are no more than the limit; else their number is
-- reported. `Memory` comes only where they would have been taken.
abbrev pub Bounds : ℕ → List ℕ → Result (List ℕ) LongRefused → Type 0
Bounds limit octets (Ok made) = (length octets ≤ limit) × (made ≡ octets)
Bounds limit octets (Err (refused.TooLong len)) = (limit < length octets) × (len ≡ length octets)
Bounds limit octets (Err refused.Memory) = length octets ≤ limit
