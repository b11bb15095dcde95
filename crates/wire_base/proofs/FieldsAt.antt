-- Fields that stand at known places of octets, as readers take them one after another.
use Rattle.std.proofs.Common.{◌≡◌, ℕ, ◌-◌, ◌+◌, ◌≤◌, ◌<◌, List, [], ◌∷◌, length, take, drop, get_or, slice_range, Option, Result, Ok, Err, refl, ap, ◌∙◌, inl, inr, arith, length-drop}
use Rattle.std.proofs.lemmas.Bool.{cases_lt, le-ltb, lt-ltb}
use Rattle.std.proofs.lemmas.List.{drop-drop, drop_more, take_all}
use Rattle.wire_base.specs.Numbers.{number_of}
use Rattle.wire_base.specs.Reading.{Reader, Rest, ◌>>=◌, done, octets, remaining, number, placed, meaning, meant_at, value_alone, and_then}
use Rattle.wire_base.specs.declared.layout.placed.Placed.{Placed}

-- What is left of octets from a place on, where the first of them stands at `base`.
abbrev pub rest_from : ℕ → List ℕ → ℕ → Rest
rest_from base octets k = record { at = base + k; octets = drop k octets }

-- The octets from one place to another.
pub octets_from : (size k base : ℕ) (all : List ℕ) → k + size ≤ length all → octets size (rest_from base all k) ≡ Ok (slice_range all k (k + size), rest_from base all (k + size))
octets_from size k base all there =
    let some : size ≤ length (drop k all) = omega (arith, length-drop k all, there) in
    let len : size ≡ k + size - k = omega arith in
    let place : base + k + size ≡ base + (k + size) = omega arith in
    rw (le-ltb (length (drop k all)) size some)
    (ap (λ (n : ℕ). Ok (take n (drop k all), record { at = base + k + size; octets = drop size (drop k all) })) len
    ∙ ap (λ (o : List ℕ). Ok (slice_range all k (k + size), record { at = base + k + size; octets = o })) (drop-drop size k all)
    ∙ ap (λ (n : ℕ). Ok (slice_range all k (k + size), record { at = n; octets = drop (k + size) all })) place)

-- They come first in a block of readers.
pub then_octets : {B : Type 0} (size k base : ℕ) (all : List ℕ) (next : List ℕ → Reader B) → k + size ≤ length all
    → (octets size >>= next) (rest_from base all k) ≡ next (slice_range all k (k + size)) (rest_from base all (k + size))
then_octets {B} size k base all next there = ap (λ (r : Result (List ℕ × Rest) ℕ). and_then r next) (octets_from size k base all there)

-- So does a number.
pub number_from : (size k base : ℕ) (all : List ℕ) → k + size ≤ length all → number size (rest_from base all k) ≡ Ok (number_of (slice_range all k (k + size)), rest_from base all (k + size))
number_from size k base all there = then_octets size k base all (λ spelled. done (number_of spelled)) there

pub then_number : {B : Type 0} (size k base : ℕ) (all : List ℕ) (next : ℕ → Reader B) → k + size ≤ length all
    → (number size >>= next) (rest_from base all k) ≡ next (number_of (slice_range all k (k + size))) (rest_from base all (k + size))
then_number {B} size k base all next there = ap (λ (r : Result (ℕ × Rest) ℕ). and_then r next) (number_from size k base all there)

-- And a number with its place.
pub then_placed : {B : Type 0} (size k base : ℕ) (all : List ℕ) (next : Placed ℕ → Reader B) (value : ℕ) → k + size ≤ length all → number_of (slice_range all k (k + size)) ≡ value
    → (placed (number size) >>= next) (rest_from base all k) ≡ next (record { at = base + k; value = value }) (rest_from base all (k + size))
then_placed {B} size k base all next value there is =
    ap (λ (r : Result (ℕ × Rest) ℕ). and_then (and_then r (λ n. done (record { at = base + k; value = n }))) next) (number_from size k base all there)
    ∙ ap (λ (n : ℕ). next (record { at = base + k; value = n }) (rest_from base all (k + size))) is

-- The number of one octet is that octet.
pub one_octet : (all : List ℕ) (k : ℕ) → k < length all → number_of (slice_range all k (k + 1)) ≡ get_or all k 0
one_octet all k there =
    let one : k + 1 - k ≡ 1 = omega arith in
    let only : slice_range all k (k + 1) ≡ get_or all k 0 ∷ [] = ap (λ (c : ℕ). take c (drop k all)) one ∙ ap (λ (o : List ℕ). take 1 o) (drop_more all k 0 there) in
    ap (λ (o : List ℕ). number_of o) only ∙ omega arith

-- ---- fields with known values

-- A number that is known.
pub then_value : {B : Type 0} (size k base : ℕ) (all : List ℕ) (next : ℕ → Reader B) (value : ℕ) → k + size ≤ length all → number_of (slice_range all k (k + size)) ≡ value
    → (number size >>= next) (rest_from base all k) ≡ next value (rest_from base all (k + size))
then_value {B} size k base all next value there is = then_number size k base all next there ∙ ap (λ (n : ℕ). next n (rest_from base all (k + size))) is

-- A number that has to mean something, and what it means.
pub then_meaning : {B C : Type 0} (means : ℕ → Option C) (size k base : ℕ) (all : List ℕ) (next : C → Reader B) (value : ℕ) → k + size ≤ length all → number_of (slice_range all k (k + size)) ≡ value
    → (meaning means (number size) >>= next) (rest_from base all k) ≡ and_then (meant_at (base + k) (means value) (rest_from base all (k + size))) next
then_meaning {B} {C} means size k base all next value there is =
    ap (λ (r : Result (ℕ × Rest) ℕ). and_then (and_then r (λ n. meant_at (base + k) (means n))) next) (number_from size k base all there)
    ∙ ap (λ (n : ℕ). and_then (meant_at (base + k) (means n) (rest_from base all (k + size))) next) is

-- All octets that are left, at the end of a block.
pub last_remaining : {B : Type 0} (k base : ℕ) (all : List ℕ) (make : List ℕ → B) (body : List ℕ) → drop k all ≡ body
    → value_alone ((remaining >>= λ o. done (make o)) (rest_from base all k)) ≡ Ok (make body)
last_remaining {B} k base all make body is =
    let left : List ℕ = drop k all in
    rw (le-ltb (length left) (length left) (omega arith)) (ap (λ (o : List ℕ). Ok (make o)) (take_all (length left) left (omega arith) ∙ is))

-- ---- fields that are not all there

-- The reading stops.
abbrev pub IsTorn : {A : Type 0} → Result A ℕ → Type 0
IsTorn r = (place : ℕ) × (r ≡ Err place)

torn_octets : (size k base : ℕ) (all : List ℕ) → k ≤ length all → length all < k + size → octets size (rest_from base all k) ≡ Err (base + k)
torn_octets size k base all begun short = rw (lt-ltb (length (drop k all)) size (omega (arith, length-drop k all, begun, short))) refl

field_or_torn : {A B : Type 0} (field : Reader A) (value : A) (size k base : ℕ) (all : List ℕ) (next : A → Reader B) → (length all < k + size → field (rest_from base all k) ≡ Err (base + k))
    → (k + size ≤ length all → field (rest_from base all k) ≡ Ok (value, rest_from base all (k + size))) → (k + size ≤ length all → IsTorn (next value (rest_from base all (k + size)))) → IsTorn ((field >>= next) (rest_from base all k))
field_or_torn {A} {B} field value size k base all next torn read then =
    elim (cases_lt (length all) (k + size)) [
      | inl short ↦ (base + k, ap (λ (r : Result (A × Rest) ℕ). and_then r next) (torn short))
      | inr there ↦ let e = then there in (e.0, ap (λ (r : Result (A × Rest) ℕ). and_then r next) (read there) ∙ e.1)
    ]

-- Where a block stops once the first field is there, it stops.
pub octets_or_torn : {B : Type 0} (size k base : ℕ) (all : List ℕ) (next : List ℕ → Reader B) → k ≤ length all → (k + size ≤ length all → IsTorn (next (slice_range all k (k + size)) (rest_from base all (k + size))))
    → IsTorn ((octets size >>= next) (rest_from base all k))
octets_or_torn size k base all next begun then = field_or_torn (octets size) (slice_range all k (k + size)) size k base all next (torn_octets size k base all begun) (octets_from size k base all) then

torn_number : (size k base : ℕ) (all : List ℕ) → k ≤ length all → length all < k + size → number size (rest_from base all k) ≡ Err (base + k)
torn_number size k base all begun short = ap (λ (r : Result (List ℕ × Rest) ℕ). and_then r (λ spelled. done (number_of spelled))) (torn_octets size k base all begun short)

pub number_or_torn : {B : Type 0} (size k base : ℕ) (all : List ℕ) (next : ℕ → Reader B) → k ≤ length all → (k + size ≤ length all → IsTorn (next (number_of (slice_range all k (k + size))) (rest_from base all (k + size))))
    → IsTorn ((number size >>= next) (rest_from base all k))
number_or_torn size k base all next begun then = field_or_torn (number size) (number_of (slice_range all k (k + size))) size k base all next (torn_number size k base all begun) (number_from size k base all) then

placed_from : (size k base : ℕ) (all : List ℕ) → k + size ≤ length all
    → placed (number size) (rest_from base all k) ≡ Ok (record { at = base + k; value = number_of (slice_range all k (k + size)) }, rest_from base all (k + size))
placed_from size k base all there = ap (λ (r : Result (ℕ × Rest) ℕ). and_then r (λ value. done (record { at = base + k; value = value }))) (number_from size k base all there)

torn_placed : (size k base : ℕ) (all : List ℕ) → k ≤ length all → length all < k + size → placed (number size) (rest_from base all k) ≡ Err (base + k)
torn_placed size k base all begun short = ap (λ (r : Result (ℕ × Rest) ℕ). and_then r (λ value. done (record { at = base + k; value = value }))) (torn_number size k base all begun short)

pub placed_or_torn : {B : Type 0} (size k base : ℕ) (all : List ℕ) (next : Placed ℕ → Reader B) → k ≤ length all
    → (k + size ≤ length all → IsTorn (next (record { at = base + k; value = number_of (slice_range all k (k + size)) }) (rest_from base all (k + size)))) → IsTorn ((placed (number size) >>= next) (rest_from base all k))
placed_or_torn size k base all next begun then =
    field_or_torn (placed (number size)) (record { at = base + k; value = number_of (slice_range all k (k + size)) }) size k base all next (torn_placed size k base all begun) (placed_from size k base all) then
