-- Why lines are no items (the table of docs/rules/sources.md), and which reason a source keeps.
use Rattle.std.specs.Prelude.{◌≡◌, ◌≢◌, ◌<◌, ◌≤◌, ◌⊎◌, ℕ, List, [], ◌∷◌, ◌++◌, Option, Some, Result, Ok, Err, codes, length, take}
use Rattle.line_words.specs.Reading.{IsHex, IsNumber, IsText, IsWithin}
use Rattle.line_words.specs.Words.{words}
use Rattle.source_lines.specs.LineItems.{IsAlone}
use Rattle.source_lines.specs.Lines.{LineView, MOST_OCTETS, before_feed}
use Rattle.source_lines.specs.Package.{IsPackage}
use Rattle.source_lines.specs.declared.line_fault.LineFault.{LineFault}
use Rattle.source_lines.specs.declared.line_fault.LineFault.TheVariants as faults
use Rattle.source_lines.specs.declared.line_fault.LineRefused.{LineRefused}
use Rattle.source_lines.specs.declared.line_fault.LineRefused.TheVariants as refused
use Rattle.source_set.specs.declared.told.Told.{Told}
use Rattle.source_set.specs.declared.told.Told.TheVariants as told

-- ---- the first word that is wrong

-- A word, or octets, have a value of this kind.
abbrev pub HasValue : {A : Type 0} → (A → Type 0) → Type 0
HasValue {A} Is = (value : A) × Is value

-- They have none.
abbrev pub HasNone : {A : Type 0} → (A → Type 0) → Type 0
HasNone Is = (value : _) → Is value → ⊥

-- What is wrong with the word of a key.
abbrev pub KeyFault : List ℕ → LineFault → Type 0
KeyFault key faults.Key = HasNone (IsNumber key)
KeyFault key other = ⊥

-- What is wrong with the word of a text of at most that number of octets.
abbrev pub TextFault : ℕ → List ℕ → LineFault → Type 0
TextFault limit word faults.Text = HasNone (IsText limit word)
TextFault limit word other = ⊥

-- What is wrong with the digits of a body.
abbrev pub DigitsFault : List ℕ → LineFault → Type 0
DigitsFault digits faults.Digits = HasNone (IsHex digits)
DigitsFault digits faults.Octets = (octets : List ℕ) × IsHex digits octets × HasNone (IsWithin 1048576 octets)
DigitsFault digits other = ⊥

-- What is wrong with the words of a key, of a locator and of a tag's octets: the first that is.
abbrev pub TagFault : List ℕ → List ℕ → List ℕ → LineFault → Type 0
TagFault key locator digits faults.Key = HasNone (IsNumber key)
TagFault key locator digits faults.Text = HasValue (IsNumber key) × HasNone (IsText 65535 locator)
TagFault key locator digits faults.Digits = HasValue (IsNumber key) × HasValue (IsText 65535 locator) × HasNone (IsHex digits)
TagFault key locator digits faults.Octets = HasValue (IsNumber key) × HasValue (IsText 65535 locator)
    × (octets : List ℕ) × IsHex digits octets × HasNone (IsPackage octets)
TagFault key locator digits other = ⊥

-- What is wrong with the words of a key, of an identifier, of a locator and of a body: the first
-- that is.
abbrev pub BodyFault : List ℕ → List ℕ → List ℕ → List ℕ → LineFault → Type 0
BodyFault key ident locator digits faults.Key = HasNone (IsNumber key)
BodyFault key ident locator digits faults.Text = HasValue (IsNumber key)
    × (HasNone (IsText 65535 ident) ⊎ HasNone (IsText 65535 locator))
BodyFault key ident locator digits faults.Digits = HasValue (IsNumber key) × HasValue (IsText 65535 ident)
    × HasValue (IsText 65535 locator) × HasNone (IsHex digits)
BodyFault key ident locator digits faults.Octets = HasValue (IsNumber key) × HasValue (IsText 65535 ident)
    × HasValue (IsText 65535 locator) × (octets : List ℕ) × IsHex digits octets × HasNone (IsWithin 1048576 octets)
BodyFault key ident locator digits other = ⊥

-- ---- a line

-- The same of the words after `gone`, after `add` and `change`, and after `xml`. Where there are
-- more or fewer, the fault is `Words`.
abbrev pub KeyFaultIn : List (List ℕ) → LineFault → Type 0
KeyFaultIn (key ∷ []) fault = KeyFault key fault
KeyFaultIn other fault = fault ≡ faults.Words

abbrev pub TagFaultIn : List (List ℕ) → LineFault → Type 0
TagFaultIn (key ∷ locator ∷ digits ∷ []) fault = TagFault key locator digits fault
TagFaultIn other fault = fault ≡ faults.Words

abbrev pub BodyFaultIn : List (List ℕ) → LineFault → Type 0
BodyFaultIn (key ∷ ident ∷ locator ∷ digits ∷ []) fault = BodyFault key ident locator digits fault
BodyFaultIn other fault = fault ≡ faults.Words

-- The first word is none of those before keys, and is no item alone.
pub record BeginsNone (verb : List ℕ) (rest : List (List ℕ)) : Type 0 where
  pub not_add : verb ≢ codes "add"
  pub not_change : verb ≢ codes "change"
  pub not_xml : verb ≢ codes "xml"
  pub not_gone : verb ≢ codes "gone"
  pub not_alone : HasNone (IsAlone verb rest)

-- The first word and those after it have this fault.
abbrev pub FaultAfter : List ℕ → List (List ℕ) → LineFault → Type 0
FaultAfter verb rest fault = ((verb ≡ codes "add") × TagFaultIn rest fault)
    ⊎ ((verb ≡ codes "change") × TagFaultIn rest fault)
    ⊎ ((verb ≡ codes "xml") × BodyFaultIn rest fault)
    ⊎ ((verb ≡ codes "gone") × KeyFaultIn rest fault)
    ⊎ (BeginsNone verb rest × (fault ≡ faults.Words))

-- The words of a line have this fault.
abbrev pub HaveFault : List (List ℕ) → LineFault → Type 0
HaveFault [] fault = fault ≡ faults.Words
HaveFault (verb ∷ rest) fault = FaultAfter verb rest fault

-- The line has this fault.
abbrev pub HasFault : List ℕ → LineFault → Type 0
HasFault line fault = HaveFault (words line) fault

-- What a call gave, or the fault that it found. Nothing is said where memory ran out.
abbrev pub GivesOr : {A : Type 0} → (A → Type 0) → (LineFault → Type 0) → Result A LineRefused → Type 0
GivesOr Is Has (Ok value) = Is value
GivesOr Is Has (Err (refused.Fault fault)) = Has fault
GivesOr Is Has (Err refused.Memory) = Unit {0}

-- ---- the fault that is kept

-- Octets begin with a whole line that is short enough, and has this fault.
pub record BeginsBad (octets : List ℕ) (fault : LineFault) : Type 0 where
  pub short : before_feed octets ≤ MOST_OCTETS
  pub ended : before_feed octets < length octets
  pub has : HasFault (take (before_feed octets) octets) fault

-- The fault of the first line of octets, one of the line or that it is too long.
abbrev pub FaultOf : List ℕ → LineFault → Type 0
FaultOf octets fault = BeginsBad octets fault ⊎ ((MOST_OCTETS < before_feed octets) × (fault ≡ faults.Long))

-- The fault that is kept after an item: that of a bad line, or else the one that was kept before.
abbrev pub Keeps : (LineFault → Type 0) → Told → Option LineFault → Option LineFault → Type 0
Keeps Has (told.Bad line) before after = (fault : LineFault) × (after ≡ Some fault) × Has fault
Keeps Has item before after = after ≡ before

-- The fault that a source of lines keeps. Where its input exposes what is left, the fault of a bad
-- line is that of the first line of the octets that are held and left.
abbrev pub KeepsFault : {S : Type 0} → (S → Option (List ℕ)) → LineView S → Told → LineView S → Type 0
KeepsFault left before item after =
    Keeps (λ fault. (octets : List ℕ) → left before.input ≡ Some octets → FaultOf (before.held ++ octets) fault) item before.fault after.fault
