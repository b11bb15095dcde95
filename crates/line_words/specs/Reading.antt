-- The words of a line as values.
use Rattle.std.specs.Prelude.{◌≡◌, ◌≢◌, ◌≤◌, ◌⊎◌, ℕ, List, [], Option, Some, None, Result, Ok, Err, codes, length}
use Rattle.std.specs.Fmt.{decimal}
use Rattle.hex.specs.Hex.{decode_of}
use Rattle.wire_base.specs.Escaped.{escaped}
use Rattle.wire_base.specs.Layout.{AreOctets}
use Rattle.wire_base.specs.Texts.{IsU32, Spells}
use Rattle.wire_base.specs.declared.values.memory.Memory.{Memory}

-- What a call found, or that there is none. Nothing is said where memory ran out.
abbrev pub Finds : {A : Type 0} → (A → Type 0) → Result (Option A) Memory → Type 0
Finds Is (Ok (Some value)) = Is value
Finds Is (Ok None) = (value : _) → Is value → ⊥
Finds Is (Err memory) = Unit {0}

-- The same of a call that takes no memory.
abbrev pub FindsExactly : {A : Type 0} → (A → Type 0) → Option A → Type 0
FindsExactly Is (Some value) = Is value
FindsExactly Is None = (value : _) → Is value → ⊥

-- The word is the decimal digits of a number of at most 32 bits, without a sign or leading zeros.
abbrev pub IsNumber : List ℕ → ℕ → Type 0
IsNumber word number = Spells decimal IsU32 word number

-- Octets of at most that number.
pub record IsWithin (limit : ℕ) (octets made : List ℕ) : Type 0 where
  pub is : made ≡ octets
  pub within : length octets ≤ limit

-- The word is the printable text of octets of at most that number.
pub record IsText (limit : ℕ) (word octets : List ℕ) : Type 0 where
  pub are : AreOctets octets
  pub is : escaped octets ≡ word
  pub within : length octets ≤ limit

-- The word is the hexadecimal digits of octets, at least one; a hyphen is no octets.
abbrev pub IsHex : List ℕ → List ℕ → Type 0
IsHex word octets = ((word ≡ codes "-") × (octets ≡ [])) ⊎ ((word ≢ codes "-") × (word ≢ []) × (decode_of word ≡ Ok octets))
