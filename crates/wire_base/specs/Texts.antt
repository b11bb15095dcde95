-- Texts that spell values, and the first fault of a text that spells none. A kind of texts is given
-- by `spelling`, the text of each value, and by `holds`, which is so of the values that there are.
use Rattle.std.specs.Prelude.{◌≡◌, ◌+◌, ◌<◌, ◌≤◌, ◌^◌, ℕ, List, ◌++◌, Result, Ok, Err, length, take}
use Rattle.std.specs.Fmt.{decimal}
use Rattle.wire_base.specs.Escaped.{escaped}
use Rattle.wire_base.specs.FirstFault.{OneOfTwo}
use Rattle.wire_base.specs.Layout.{AreOctets}
use Rattle.wire_base.specs.declared.values.text_refused.TextRefused.{TextRefused}
use Rattle.wire_base.specs.declared.values.text_refused.TextRefused.TheVariants as refused

-- ---- the definition

-- The text spells the value.
abbrev pub Spells : {V : Type 0} → (V → List ℕ) → (V → Type 0) → List ℕ → V → Type 0
Spells spelling holds text value = holds value × (spelling value ≡ text)

-- The text of some value begins with these characters.
pub record Begins {V : Type 0} (spelling : V → List ℕ) (holds : V → Type 0) (characters : List ℕ) : Type 0 where
  pub value : V
  pub so : holds value
  pub more : List ℕ
  pub split : spelling value ≡ characters ++ more

-- The first fault of a text is at the place. The text spells no value. The text of some value
-- begins with the characters before the place, and none with these and the character at the place,
-- where there is one.
pub record StopsAt {V : Type 0} (spelling : V → List ℕ) (holds : V → Type 0) (text : List ℕ) (place : ℕ) : Type 0 where
  pub no_value : (value : V) → Spells spelling holds text value → ⊥
  pub within : place ≤ length text
  pub begins : Begins spelling holds (take place text)
  pub stops : place < length text → Begins spelling holds (take (place + 1) text) → ⊥

-- ---- what readers of texts give

-- What a call gave of a text: the value that the text spells, or the place of its first fault.
-- Nothing is said where it was out of memory.
abbrev pub ReadsText : {V : Type 0} → (V → List ℕ) → (V → Type 0) → List ℕ → Result V TextRefused → Type 0
ReadsText spelling holds text (Ok value) = Spells spelling holds text value
ReadsText spelling holds text (Err (refused.Fault place)) = StopsAt spelling holds text place
ReadsText spelling holds text (Err refused.Memory) = Unit {0}

-- The same of a call that takes no memory.
abbrev pub ReadsTextExactly : {V : Type 0} → (V → List ℕ) → (V → Type 0) → List ℕ → Result V TextRefused → Type 0
ReadsTextExactly spelling holds text (Err refused.Memory) = ⊥
ReadsTextExactly spelling holds text result = ReadsText spelling holds text result

-- ---- the two kinds of texts

-- The number has at most 32 bits.
abbrev pub IsU32 : ℕ → Type 0
IsU32 number = number < 2 ^ 32

-- Each text spells exactly one value or has exactly one first fault, and not both.
abbrev pub ValueOrFault : {V : Type 0} → (V → List ℕ) → (V → Type 0) → Type 0
ValueOrFault spelling holds = (text : List ℕ) → OneOfTwo (λ value. Spells spelling holds text value) (λ place. StopsAt spelling holds text place)

-- This is so of the texts of octets.
abbrev pub EscapedOrFault : Type 0
EscapedOrFault = ValueOrFault escaped AreOctets

-- This is so of the decimal numbers of at most 32 bits.
abbrev pub DecimalOrFault : Type 0
DecimalOrFault = ValueOrFault decimal IsU32
