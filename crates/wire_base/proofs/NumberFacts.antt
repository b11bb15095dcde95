-- Numbers and their octets.
use Rattle.std.proofs.Common.{ℕ, zero, suc, ◌+◌, ◌*◌, ◌^◌, ◌<◌, arith}

-- A number of at most three octets has room for one more in 32 bits.
pub has_room : (size number : ℕ) → size < 4 → number < 256 ^ size → 256 * number + 255 < 2 ^ 32
has_room zero number small fits = omega arith
has_room (suc zero) number small fits = omega arith
has_room (suc (suc zero)) number small fits = omega arith
has_room (suc (suc (suc zero))) number small fits = omega arith
has_room (suc (suc (suc (suc size)))) number small fits = absurd (omega arith)
