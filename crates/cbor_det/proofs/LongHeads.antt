-- A head whose argument stands in the octets after its initial byte.
use Rattle.std.proofs.Common.{◌≡◌, ℕ, zero, suc, ◌+◌, ◌*◌, ◌<◌, ◌≤◌, List, [], ◌∷◌, ◌++◌, length, sym, ap, arith}
use Rattle.wire_base.specs.Numbers.{number_of}
use Rattle.wire_base.specs.Layout.{AreOctets}
use Rattle.wire_base.proofs.Spelled.{octets_of-number_of, number_of-below}
use Rattle.cbor_det.specs.declared.initial.Major.{Major}
use Rattle.cbor_det.specs.Initial.{number_of_major}
use Rattle.cbor_det.specs.Canonical.{one, two, four, eight}
use Rattle.cbor_det.specs.Spelling.{IsHead}
use Rattle.cbor_det.specs.Standing.{BeginsHead, one_more, two_more, four_more, eight_more}

-- a list of octets, and one more
pub are_push : (xs : List ℕ) (b : ℕ) → AreOctets xs → b < 256 → AreOctets (xs ++ b ∷ [])
are_push [] b are small zero = small
are_push [] b are small (suc i) = omega arith
are_push (x ∷ xs) b are small zero = are 0
are_push (x ∷ xs) b are small (suc i) = are_push xs b (λ j. are (suc j)) small i

-- the head that some octets of argument make
pub long_head : (m : Major) (size lead : ℕ) (bs : List ℕ) → BeginsHead m size lead → length bs ≡ size → AreOctets bs → IsHead (number_of_major m) (number_of bs) (lead ∷ bs)
long_head m size lead bs one_more len are =
    record { form = one; fits = number_of-below 1 bs len are; is = ap (λ (o : List ℕ). (32 * number_of_major m + 24) ∷ o) (sym (octets_of-number_of 1 bs len are)) }
long_head m size lead bs two_more len are =
    record { form = two; fits = number_of-below 2 bs len are; is = ap (λ (o : List ℕ). (32 * number_of_major m + 25) ∷ o) (sym (octets_of-number_of 2 bs len are)) }
long_head m size lead bs four_more len are =
    record { form = four; fits = number_of-below 4 bs len are; is = ap (λ (o : List ℕ). (32 * number_of_major m + 26) ∷ o) (sym (octets_of-number_of 4 bs len are)) }
long_head m size lead bs eight_more len are =
    record { form = eight; fits = number_of-below 8 bs len are; is = ap (λ (o : List ℕ). (32 * number_of_major m + 27) ∷ o) (sym (octets_of-number_of 8 bs len are)) }

pub long_some : (m : Major) (left b : ℕ) → BeginsHead m left b → 1 ≤ left
long_some m left b one_more = omega arith
long_some m left b two_more = omega arith
long_some m left b four_more = omega arith
long_some m left b eight_more = omega arith
