-- What the definitions mean. All lists of octets here have numbers below 256.
use Rattle.std.specs.Prelude.{◌≡◌, ◌≤◌, ◌<◌, ◌+◌, ◌^◌, ◌↔◌, ◌⊎◌, ℕ, true, false, List, [], ◌∷◌, ◌++◌, Option, Some, Ok, Err, length, filter}
use Rattle.std.specs.List.{AllByRecursion}
use Rattle.wire_base.specs.FaultTable.{IsLowest as IsLowestBy}
use Rattle.wire_base.specs.FirstFault.{FormOrFault}
use Rattle.wire_base.specs.Layout.{AreOctets}
use Rattle.wire_base.specs.Reading.{whole}
use Rattle.wire_base.specs.Written.{written}
use Rattle.pa_attrs.specs.declared.attr.Attr.{Attr}
use Rattle.pa_attrs.specs.declared.attr.PaMessage.{PaMessage}
use Rattle.pa_attrs.specs.declared.attr.PlacedAttr.{PlacedAttr}
use Rattle.pa_attrs.specs.declared.error.PaError.{PaError}
use Rattle.pa_attrs.specs.declared.fault.AttrFault.{AttrFault}
use Rattle.pa_attrs.specs.declared.fault.PaFault.{PaFault}
use Rattle.pa_attrs.specs.declared.header.Header.{Header}
use Rattle.pa_attrs.specs.Numbers.{HEADER, MESSAGE_HEADER, MOST_OCTETS}
use Rattle.pa_attrs.specs.AttrForm.{AttrForm, IsNamed, attr_fields, header_for}
use Rattle.pa_attrs.specs.ErrorForm.{ErrorForm, error_of, read_error, swima_error, written_error}
use Rattle.pa_attrs.specs.Faults.{Row, first_shown, header_rows, is_refused, is_supported, message_rows}
use Rattle.pa_attrs.specs.FirstFault.{IsFault}
use Rattle.pa_attrs.specs.Header.{header_of}
use Rattle.pa_attrs.specs.MessageForm.{CanBeWritten, MessageForm, message_octets, written_message}
use Rattle.pa_attrs.specs.MessageReading.{message_of, supports, value_fault}
use Rattle.pa_attrs.specs.Stream.{More, Bad, Whole, front_of}

-- ---- streams

-- The attribute stands first in the octets, and has that many of them.
abbrev pub IsFirst : Attr → ℕ → List ℕ → Type 0
IsFirst attr len octets = (attribute : List ℕ) × (rest : List ℕ) × (octets ≡ attribute ++ rest) × (length attribute ≡ len) × AttrForm attr attribute

-- Octets begin with a whole attribute exactly where an attribute stands first.
abbrev pub WholeIsAttribute : Type 0
WholeIsAttribute = (octets : List ℕ) (attr : Attr) (len : ℕ) → AreOctets octets → (front_of octets ≡ Whole attr len) ↔ IsFirst attr len octets

-- What octets begin with they begin with whatever follows: an attribute that is whole and a fault
-- that shows stay.
abbrev pub FrontStays : Type 0
FrontStays = (octets rest : List ℕ)
    → ((attr : Attr) (len : ℕ) → front_of octets ≡ Whole attr len → front_of (octets ++ rest) ≡ Whole attr len)
    × ((fault : AttrFault) → front_of octets ≡ Bad fault → front_of (octets ++ rest) ≡ Bad fault)

-- No attribute is a prefix of another one.
abbrev pub NoneIsFront : Type 0
NoneIsFront = (attr other : Attr) (octets rest : List ℕ) → AttrForm attr octets → AttrForm other (octets ++ rest) → rest ≡ []

-- What is written of an attribute is read back, whatever follows.
abbrev pub WrittenIsFirst : Type 0
WrittenIsFirst = (attr : Attr) (rest : List ℕ) → IsNamed attr → HEADER + length attr.value ≤ MOST_OCTETS
    → front_of (written (attr_fields attr) ++ rest) ≡ Whole attr (HEADER + length attr.value)

-- ---- messages

-- The attributes of octets that begin at `at`, each with the place of its value.
abbrev pub places : ℕ → List Attr → List PlacedAttr
places at [] = []
places at (attr ∷ attrs) = record { at = at + HEADER; attr = attr } ∷ places (at + (HEADER + length attr.value)) attrs

-- The attribute is supported, or may be passed over.
abbrev pub IsPassed : List ℕ → Attr → Type 0
IsPassed supported attr = is_refused supported (header_for attr) ≡ false

-- The octets are a message with this identifier, and with these attributes that are supported, at
-- these places.
pub record IsRead (supported octets : List ℕ) (id : ℕ) (attrs : List PlacedAttr) : Type 0 where
  pub message : PaMessage
  pub form : MessageForm message octets
  pub passed : AllByRecursion (IsPassed supported) message.attrs
  pub id-is : id ≡ message.id
  pub attrs-are : attrs ≡ filter (supports supported) (places MESSAGE_HEADER message.attrs)

-- A message is read of octets exactly where they are one.
abbrev pub ReadingIsForm : Type 0
ReadingIsForm = (supported octets : List ℕ) (id : ℕ) (attrs : List PlacedAttr) → AreOctets octets → length octets ≤ MOST_OCTETS
    → (message_of supported octets ≡ Ok (id, attrs)) ↔ IsRead supported octets id attrs

-- The attribute is of a type that is supported.
abbrev pub IsSupported : List ℕ → Attr → Type 0
IsSupported supported attr = is_supported supported attr.vendor attr.kind ≡ true

-- What is written of a message whose attributes are supported is read back, with the places added.
abbrev pub WrittenIsRead : Type 0
WrittenIsRead = (supported : List ℕ) (message : PaMessage) → message.id < 2 ^ 32 → CanBeWritten message → AllByRecursion (IsSupported supported) message.attrs
    → message_of supported (written_message message) ≡ Ok (message.id, places MESSAGE_HEADER message.attrs)

-- It has as many octets as are counted.
abbrev pub WrittenIsCounted : Type 0
WrittenIsCounted = (message : PaMessage) → length (written_message message) ≡ message_octets message

-- ---- faults

-- Of the rows that show none has a lower place than this fault.
abbrev pub IsLowest : AttrFault → List Row → Type 0
IsLowest fault rows = IsLowestBy (λ (f : AttrFault). f.at) fault rows

-- The fault of an attribute, of a message and of a stream, is that of a row with the lowest place.
abbrev pub FaultIsLowest : Type 0
FaultIsLowest = (supported octets : List ℕ) (room most : ℕ) (h : Header) (fault : AttrFault)
    → (first_shown (message_rows supported room octets h) ≡ Some fault → IsLowest fault (message_rows supported room octets h))
    × (first_shown (header_rows most h) ≡ Some fault → IsLowest fault (header_rows most h))

-- A message is refused with a fault exactly where that is the first: of all rows that show, on
-- whichever attribute, the one with the lowest place.
abbrev pub FaultIsFirst : Type 0
FaultIsFirst = (supported octets : List ℕ) (fault : PaFault) → (message_of supported octets ≡ Err fault) ↔ IsFault supported octets fault

-- The 12 octets of a header are there, and the fault is the first row that shows on them.
abbrev pub ShowsFault : List ℕ → AttrFault → Type 0
ShowsFault octets fault = (HEADER ≤ length octets) × (first_shown (header_rows MOST_OCTETS (header_of octets)) ≡ Some fault)

-- A fault shows in a stream exactly where the 12 octets of a header are there and it is the first
-- row that shows on them.
abbrev pub BadIsFault : Type 0
BadIsFault = (octets : List ℕ) (fault : AttrFault) → (front_of octets ≡ Bad fault) ↔ ShowsFault octets fault

-- ---- exactly one

-- Octets are a message or have a fault: exactly one of the two, and one message or one fault alone.
pub record HasMessageOrFault (supported octets : List ℕ) : Type 0 where
  pub one_message : (id other : ℕ) (attrs others : List PlacedAttr) → IsRead supported octets id attrs → IsRead supported octets other others
      → (id ≡ other) × (attrs ≡ others)
  pub one_fault : (one other : PaFault) → IsFault supported octets one → IsFault supported octets other → one ≡ other
  pub not_both : (id : ℕ) (attrs : List PlacedAttr) (fault : PaFault) → IsRead supported octets id attrs → IsFault supported octets fault → ⊥
  pub not_neither : ((id : ℕ) × (attrs : List PlacedAttr) × IsRead supported octets id attrs) ⊎ ((fault : PaFault) × IsFault supported octets fault)

-- This is true of all octets that may be a message.
abbrev pub MessageOrFault : Type 0
MessageOrFault = (supported octets : List ℕ) → AreOctets octets → length octets ≤ MOST_OCTETS → HasMessageOrFault supported octets

-- Octets of a stream begin with an attribute, or a fault shows in them, or neither: exactly one of
-- the three, and one attribute or one fault alone.
pub record HasAttributeOrFault (octets : List ℕ) : Type 0 where
  pub one_attribute : (one other : Attr) (len count : ℕ) → IsFirst one len octets → IsFirst other count octets → (one ≡ other) × (len ≡ count)
  pub one_fault : (one other : AttrFault) → ShowsFault octets one → ShowsFault octets other → one ≡ other
  pub not_both : (attr : Attr) (len : ℕ) (fault : AttrFault) → IsFirst attr len octets → ShowsFault octets fault → ⊥
  pub neither : (front_of octets ≡ More) ↔ (((attr : Attr) (len : ℕ) → IsFirst attr len octets → ⊥) × ((fault : AttrFault) → ShowsFault octets fault → ⊥))

-- This is true of all octets.
abbrev pub AttributeOrFault : Type 0
AttributeOrFault = (octets : List ℕ) → AreOctets octets → HasAttributeOrFault octets

-- ---- Errors

-- An Error is read of octets exactly where they are one.
abbrev pub ErrorIsForm : Type 0
ErrorIsForm = (base : ℕ) (octets : List ℕ) (error : PaError) → AreOctets octets → (whole read_error base octets ≡ Ok error) ↔ ErrorForm error octets

-- A value of that many octets is no Error, and its fault is at a place. The place is that of the
-- first that does not fit of the reserved octet, the vendor and the code.
abbrev pub IsTorn : ℕ → ℕ → ℕ → Type 0
IsTorn base count place =
    ((count < 1) × (place ≡ base))
    ⊎ (((1 ≤ count) × (count < 4) × (place ≡ base + 1))
    ⊎ ((4 ≤ count) × (count < 8) × (place ≡ base + 4)))

-- A value has a fault exactly where it has fewer than 8 octets, at the first field that does not
-- fit.
abbrev pub ErrorIsTorn : Type 0
ErrorIsTorn = (base : ℕ) (octets : List ℕ) (place : ℕ) → (whole read_error base octets ≡ Err place) ↔ IsTorn base (length octets) place

-- What is written of an Error is read back.
abbrev pub WrittenErrorIsRead : Type 0
WrittenErrorIsRead = (base : ℕ) (error : PaError) → error.vendor < 2 ^ 24 → error.code < 2 ^ 32 → whole read_error base (written_error error) ≡ Ok error

-- Octets of a value are an Error or have a fault: exactly one of the two.
abbrev pub ErrorOrFault : Type 0
ErrorOrFault = FormOrFault ErrorForm (λ base octets place. IsTorn base (length octets) place)

-- An Error has 8 octets and those of its information.
abbrev pub WrittenErrorIsCounted : Type 0
WrittenErrorIsCounted = (error : PaError) → length (written_error error) ≡ 8 + length error.info

-- An Error about a request (RFC 8412, section 5.15) has at most 24 octets.
abbrev pub SwimaErrorIsShort : Type 0
SwimaErrorIsShort = (code id : ℕ) (most : Option ℕ) → length (written_error (swima_error code id most)) ≤ 24

-- The Error that reports the fault has the code of the fault, and has at most 24 octets.
pub record IsReported (fault : PaFault) : Type 0 where
  pub code : (error_of fault).code ≡ fault.code
  pub short : length (written_error (error_of fault)) ≤ 24

-- This is true of each fault of a message and of each fault of a value.
pub record FaultIsReported : Type 0 where
  pub message : (supported octets : List ℕ) (fault : PaFault) → message_of supported octets ≡ Err fault → IsReported fault
  pub value : (octets : List ℕ) (attrs : List PlacedAttr) (offset : ℕ) → IsReported (value_fault octets attrs offset)
