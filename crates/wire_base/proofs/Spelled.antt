-- A number and its octets are each other's, at any size.
use Rattle.std.proofs.Common.{◌≡◌, ℕ, zero, suc, ◌+◌, ◌*◌, ◌/◌, ◌%◌, ◌^◌, ◌<◌, List, [], ◌∷◌, ◌++◌, length, get_or, take, refl, sym, ap, ◌∙◌, arith, inl, inr, add-one, length-append, length-take}
use Rattle.std.proofs.Math.Nat.{pow-suc}
use Rattle.std.proofs.lemmas.Bool.{cases_lt}
use Rattle.std.proofs.lemmas.List.{take_more, take_all, get_or-take, get_or_past, get_or-append-add, get_or_append_left, nil_from_length}
use Rattle.std.proofs.lemmas.List.Sums.{fold_push}
use Rattle.wire_base.specs.Numbers.{number_of, octets_of}
use Rattle.wire_base.specs.Layout.{AreOctets}

-- A prefix of octets has octets.
pub AreOctets-take : (count : ℕ) (octets : List ℕ) → AreOctets octets → AreOctets (take count octets)
AreOctets-take count octets are i =
    elim (cases_lt i count) [
      | inl lt ↦ rw (get_or-take count octets i 0 lt) (are i)
      | inr le ↦ rw (get_or_past (take count octets) i 0 (omega (arith, length-take count octets))) (omega arith)
    ]

-- What stands before other octets has octets.
pub AreOctets-front : (octets front rest : List ℕ) → octets ≡ front ++ rest → AreOctets octets → AreOctets front
AreOctets-front octets front rest is are i =
    elim (cases_lt i (length front)) [
      | inl lt ↦ let at : get_or octets i 0 ≡ get_or front i 0 = ap (λ (o : List ℕ). get_or o i 0) is ∙ get_or_append_left front rest 0 i lt in omega (arith, are i)
      | inr le ↦ rw (get_or_past front i 0 le) (omega arith)
    ]

-- What stands after a prefix of octets has octets.
pub AreOctets-rest : (octets front rest : List ℕ) → octets ≡ front ++ rest → AreOctets octets → AreOctets rest
AreOctets-rest octets front rest is are i =
    let at : get_or octets (length front + i) 0 ≡ get_or rest i 0 = ap (λ (o : List ℕ). get_or o (length front + i) 0) is ∙ get_or-append-add front rest i 0 in
    omega (arith, are (length front + i))

-- The last octet counts once, and those before it 256 times.
number_push : (octets : List ℕ) (octet : ℕ) → number_of (octets ++ octet ∷ []) ≡ 256 * number_of octets + octet
number_push octets octet = fold_push (λ (number : ℕ) (o : ℕ). 256 * number + o) 0 octets octet

-- A number has as many octets as are asked for.
pub length-octets_of : (size number : ℕ) → length (octets_of size number) ≡ size
unfolding octets_of
length-octets_of zero number = refl
length-octets_of (suc size) number = length-append (octets_of size (number / 256)) (number % 256 ∷ []) ∙ ap (λ (k : ℕ). k + 1) (length-octets_of size (number / 256)) ∙ add-one size

-- The octets of a number that fits stand for it.
pub number_of-octets_of : (size number : ℕ) → number < 256 ^ size → number_of (octets_of size number) ≡ number
unfolding octets_of
number_of-octets_of zero number fits = omega arith
number_of-octets_of (suc size) number fits =
    let power : 256 ^ suc size ≡ 256 ^ size * 256 = pow-suc 256 size in
    let high : number / 256 < 256 ^ size = omega arith in
    let front = number_of-octets_of size (number / 256) high in
    let split = number_push (octets_of size (number / 256)) (number % 256) in
    omega (arith, front, split)

-- A list of a length that is not 0 is a prefix and the last of it.
last_split : (size : ℕ) (octets : List ℕ) → length octets ≡ suc size → octets ≡ take size octets ++ get_or octets size 0 ∷ []
last_split size octets len = sym (take_all (size + 1) octets (omega arith)) ∙ take_more octets size 0 (omega arith)

-- The number of some octets, from that of all but the last.
number_split : (size : ℕ) (octets : List ℕ) → length octets ≡ suc size → number_of octets ≡ 256 * number_of (take size octets) + get_or octets size 0
number_split size octets len = ap (λ (o : List ℕ). number_of o) (last_split size octets len) ∙ number_push (take size octets) (get_or octets size 0)

-- The number of some octets has them again as its octets.
pub octets_of-number_of : (size : ℕ) (octets : List ℕ) → length octets ≡ size → AreOctets octets → octets_of size (number_of octets) ≡ octets
unfolding octets_of
octets_of-number_of zero octets len are = sym (nil_from_length octets len)
octets_of-number_of (suc size) octets len are =
    let front : List ℕ = take size octets in
    let last : ℕ = get_or octets size 0 in
    let small : last < 256 = are size in
    let split = number_split size octets len in
    let high : number_of octets / 256 ≡ number_of front = omega (arith, split, small) in
    let low : number_of octets % 256 ≡ last = omega (arith, split, small) in
    let again = octets_of-number_of size front (omega (arith, length-take size octets)) (AreOctets-take size octets are) in
    ap (λ (k : ℕ). octets_of size k ++ (number_of octets % 256) ∷ []) high ∙ ap (λ (o : ℕ). octets_of size (number_of front) ++ o ∷ []) low
    ∙ ap (λ (o : List ℕ). o ++ last ∷ []) again ∙ sym (last_split size octets len)

-- The number of that many octets fits them.
pub number_of-below : (size : ℕ) (octets : List ℕ) → length octets ≡ size → AreOctets octets → number_of octets < 256 ^ size
number_of-below zero octets len are = rw (nil_from_length octets len) (omega arith)
number_of-below (suc size) octets len are =
    let power : 256 ^ suc size ≡ 256 ^ size * 256 = pow-suc 256 size in
    let split = number_split size octets len in
    let small : get_or octets size 0 < 256 = are size in
    let high = number_of-below size (take size octets) (omega (arith, length-take size octets)) (AreOctets-take size octets are) in
    omega (arith, split, high)
