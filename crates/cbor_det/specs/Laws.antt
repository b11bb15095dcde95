-- Laws of spellings, faults and canonical spellings.
use Rattle.std.specs.Prelude.{◌≡◌, ◌<◌, ◌≤◌, ◌⊎◌, ℕ, ◌^◌, List, [], ◌∷◌, ◌++◌, length}
use Rattle.std.specs.List.Sorted.{IsPermutation}
use Rattle.wire_base.specs.Layout.{AreOctets}
use Rattle.cbor_det.specs.declared.limits.Limits.{Limits}
use Rattle.cbor_det.specs.Term.{Term, Pairs, depth}
use Rattle.cbor_det.specs.Canonical.{canon}
use Rattle.cbor_det.specs.Spelling.{Spelling, PairSeries}
use Rattle.cbor_det.specs.Faults.{Begins, IsFault, IsCut}
use Rattle.cbor_det.specs.Proper.{IsProper}

-- A spelling is of one item, and begins no other spelling.
abbrev pub OneItem : Type 0
OneItem = (t u : Term) (o q x y : List ℕ) → Spelling t o → Spelling u q → o ++ x ≡ q ++ y → (t ≡ u) × (x ≡ y)

-- A member of a map, as it comes: a spelling of its key, and after it one of its value.
pub record Member : Type 0 where
  pub key : Term
  pub value : Term
  pub key_octets : List ℕ
  pub value_octets : List ℕ
  pub key_spelled : Spelling key key_octets
  pub value_spelled : Spelling value value_octets

-- members one after another
abbrev pub joined : List Member → List ℕ
joined [] = []
joined (m ∷ ms) = (m.key_octets ++ m.value_octets) ++ joined ms

-- The order in which the members of a map come does not matter: in each other order they spell the
-- same pairs.
abbrev pub OrderIsFree : Type 0
OrderIsFree = (ps : Pairs) (ms ns : List Member) → IsPermutation ms ns → PairSeries ps (joined ms) → PairSeries ps (joined ns)

-- What has a spelling is proper, and has its canonical spelling.
abbrev pub SpelledIsProper : Type 0
SpelledIsProper = (t : Term) (o : List ℕ) → Spelling t o → IsProper t

abbrev pub SpelledIsWritten : Type 0
SpelledIsWritten = (t : Term) (o : List ℕ) → Spelling t o → length o < 2 ^ 64 → Spelling t (canon t)

-- A proper item is spelled by its canonical spelling.
abbrev pub ProperIsWritten : Type 0
ProperIsWritten = (t : Term) → IsProper t → length (canon t) < 2 ^ 64 → Spelling t (canon t)

-- Two proper items with one canonical spelling are one.
abbrev pub OneCanonical : Type 0
OneCanonical = (t u : Term) → IsProper t → IsProper u → length (canon t) < 2 ^ 64 → canon t ≡ canon u → t ≡ u

-- What is written is read, whatever follows, where the limits hold it.
abbrev pub WrittenIsRead : Type 0
WrittenIsRead =
    (limits : Limits) (t : Term) (tail : List ℕ) → IsProper t → length (canon t) < 2 ^ 64 → length (canon t) ≤ limits.octets → depth t ≤ limits.depth
    → Begins limits (canon t ++ tail) t (length (canon t))

-- Octets begin with one item at most, have one fault at most, and not both.
abbrev pub ItemIsOne : Type 0
ItemIsOne =
    (limits : Limits) (input : List ℕ) (t u : Term) (n m : ℕ) → Begins limits input t n → Begins limits input u m → (t ≡ u) × (n ≡ m)

abbrev pub FaultIsOne : Type 0
FaultIsOne = (limits : Limits) (input : List ℕ) (k a j c : ℕ) → IsFault limits input k a → IsFault limits input j c → (k ≡ j) × (a ≡ c)

abbrev pub NotBoth : Type 0
NotBoth = (limits : Limits) (input : List ℕ) (t : Term) (n k a : ℕ) → Begins limits input t n → IsFault limits input k a → ⊥

-- Octets begin with an item, or show a fault, or neither.
abbrev pub SomeOutcome : Limits → List ℕ → Type 0
SomeOutcome limits input =
    ((t : Term) × (n : ℕ) × Begins limits input t n) ⊎ ((k : ℕ) × (a : ℕ) × IsFault limits input k a) ⊎ IsCut limits input

abbrev pub EachHasOutcome : Type 0
EachHasOutcome = (limits : Limits) (input : List ℕ) → AreOctets input → SomeOutcome limits input
