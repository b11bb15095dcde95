-- The bodies of messages have room in a batch.
use Rattle.std.proofs.Common.{◌≡◌, ◌≤◌, ◌+◌, ℕ, List, [], ◌∷◌, length, arith}
use Rattle.std.specs.Prelude.{sum_by}
use Rattle.std.specs.List.{AllByRecursion}
use Rattle.std.proofs.lemmas.List.Elements.{All-from_recursion}
use Rattle.std.proofs.lemmas.List.Sums.{sum_by-cons}
use Rattle.pb_batch.specs.declared.batch.Message.{Message}
use Rattle.pb_batch.specs.Form.{body_of, message_octets}
use Rattle.pb_batch.specs.Shown.{BodiesFit}

-- No body has more octets than all messages together.
fit : (most : ℕ) (ms : List Message) → sum_by message_octets ms ≤ most → AllByRecursion (λ (m : Message). length (body_of m) ≤ most) ms
fit most [] sum = tt
fit most (m ∷ ms) sum =
    let parts : sum_by message_octets (m ∷ ms) ≡ message_octets m + sum_by message_octets ms = sum_by-cons message_octets m ms in
    (omega (arith, sum, parts), fit most ms (omega (arith, sum, parts)))

pub bodies_fit : BodiesFit
bodies_fit b is = All-from_recursion (λ (m : Message). length (body_of m) ≤ 16777216) b.messages (fit 16777216 b.messages (omega (arith, is.short)))
