-- Which fault of a message counts (RFC 5792, sections 3.6 and 4.1). If a row on its header applies,
-- that is the fault. Otherwise it is the row with the lowest place of all that show on its
-- attributes, and of two at one place the earlier.
use Rattle.std.specs.Prelude.{◌≡◌, ◌<◌, ◌≤◌, ◌+◌, ◌-◌, ◌⊎◌, ℕ, true, List, [], ◌∷◌, Some, None, length, drop}
use Rattle.wire_base.specs.FaultTable.{AreNotBelow as AreNotBelowBy}
use Rattle.pa_attrs.specs.declared.attr.PlacedAttr.{PlacedAttr}
use Rattle.pa_attrs.specs.declared.fault.AttrFault.{AttrFault}
use Rattle.pa_attrs.specs.declared.fault.PaFault.{PaFault}
use Rattle.pa_attrs.specs.Numbers.{HEADER, MESSAGE_HEADER, MOST_ATTRIBUTES}
use Rattle.pa_attrs.specs.Header.{header_of}
use Rattle.pa_attrs.specs.Faults.{Row, first_shown, message_rows}
use Rattle.pa_attrs.specs.MessageReading.{Broken, fault_of, is_answered, placed, start_rows}

-- The attributes stand one after another from the first octet on, which is at `at`, each as long as
-- its header says; after them, at a place, these octets are left.
abbrev pub StandBefore : List PlacedAttr → ℕ → List ℕ → ℕ → List ℕ → Type 0
StandBefore [] at octets place left = (place ≡ at) × (left ≡ octets)
StandBefore (attr ∷ attrs) at octets place left =
    (HEADER ≤ (header_of octets).length)
    × ((header_of octets).length ≤ length octets)
    × (attr ≡ placed at (header_of octets) octets)
    × StandBefore attrs (at + (header_of octets).length) (drop (header_of octets).length octets) place left

-- The rows on the attribute that begins with the octets that are left, after these others, where
-- that many have room.
abbrev pub rows_behind : List ℕ → ℕ → List PlacedAttr → List ℕ → List Row
rows_behind supported room attrs left = message_rows supported (room - length attrs) left (header_of left)

-- Of the rows that show at a place none is below the limit.
abbrev pub AreNotBelow : ℕ → ℕ → List Row → Type 0
AreNotBelow limit place rows = AreNotBelowBy (λ (fault : AttrFault). place + fault.at) limit rows

-- The fault shows after these attributes, and no row that shows anywhere has a lower place.
pub record IsFirstFault (supported : List ℕ) (room at : ℕ) (octets : List ℕ) (before : List PlacedAttr) (broken : Broken) : Type 0 where
  pub behind : StandBefore before at octets broken.at broken.octets
  pub some : 0 < length broken.octets
  pub row : first_shown (rows_behind supported room before broken.octets) ≡ Some broken.fault
  pub lowest : (attrs : List PlacedAttr) (place : ℕ) (left : List ℕ) → StandBefore attrs at octets place left → 0 < length left
      → AreNotBelow (broken.at + broken.fault.at) place (rows_behind supported room attrs left)

-- A row on the header of the message shows. It is answered.
pub record HeaderFault (octets : List ℕ) (fault : PaFault) : Type 0 where
  pub shown : AttrFault
  pub row : first_shown (start_rows octets) ≡ Some shown
  pub is : fault ≡ fault_of octets true (record { at = 0; octets = octets; fault = shown })

-- None does, and this is the first fault of the attributes. It is answered where none before it is
-- a PA-TNC Error.
pub record AttrsFault (supported octets : List ℕ) (fault : PaFault) : Type 0 where
  pub good : first_shown (start_rows octets) ≡ None
  pub before : List PlacedAttr
  pub broken : Broken
  pub first : IsFirstFault supported MOST_ATTRIBUTES MESSAGE_HEADER (drop MESSAGE_HEADER octets) before broken
  pub is : fault ≡ fault_of octets (is_answered before) broken

-- The fault of a message.
abbrev pub IsFault : List ℕ → List ℕ → PaFault → Type 0
IsFault supported octets fault = HeaderFault octets fault ⊎ AttrsFault supported octets fault
