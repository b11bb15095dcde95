-- Layouts of messages: fields one after another, in the order of the figures of the RFCs.
use Rattle.std.specs.Prelude.{◌≡◌, ◌<◌, ◌^◌, ℕ, Bool, List, [], ◌∷◌, ◌++◌, length, nat_lt, slice_index, bit_and}
use Rattle.wire_base.specs.Numbers.{octets_of}

-- Each number of the list is an octet.
abbrev pub AreOctets : List ℕ → Type 0
AreOctets octets = (i : ℕ) → slice_index octets i < 256

-- A field, with what it says.
--   Number size value     a number of that many octets, the most significant first
--   Reserved size         that many octets that may be any
--   Flags flags           an octet of flags: of each its bit, and whether it is set; other bits
--                         may be any
--   Fixed size octets     these octets, of which there are that many
--   Counted size octets   a length of that many octets, and then the octets that it counts
pub data Field : Type 0 where
  Number : ℕ → ℕ → Field
  Reserved : ℕ → Field
  Flags : List (ℕ × Bool) → Field
  Fixed : ℕ → List ℕ → Field
  Counted : ℕ → List ℕ → Field

-- The bit is set in the octet.
abbrev pub is_set : ℕ → ℕ → Bool
is_set octet bit = nat_lt 0 (bit_and octet bit)

-- The flags are as the octet has them.
abbrev pub AreFlags : ℕ → List (ℕ × Bool) → Type 0
AreFlags octet [] = Unit {0}
AreFlags octet (flag ∷ flags) = (is_set octet flag.0 ≡ flag.1) × AreFlags octet flags

-- The octets are the field. All lists here are of octets, numbers below 256.
abbrev pub FieldForm : Field → List ℕ → Type 0
FieldForm (Number size value) octets = (value < 256 ^ size) × (octets ≡ octets_of size value)
FieldForm (Reserved size) octets = length octets ≡ size
FieldForm (Flags flags) octets = (octet : ℕ) × (octets ≡ octet ∷ []) × AreFlags octet flags
FieldForm (Fixed size fixed) octets = (length fixed ≡ size) × (octets ≡ fixed)
FieldForm (Counted size counted) octets = (length counted < 256 ^ size) × (octets ≡ octets_of size (length counted) ++ counted)

-- The octets are the fields, one after another.
abbrev pub Form : List Field → List ℕ → Type 0
Form [] octets = octets ≡ []
Form (field ∷ fields) octets = (front : List ℕ) × (rest : List ℕ) × (octets ≡ front ++ rest) × FieldForm field front × Form fields rest
